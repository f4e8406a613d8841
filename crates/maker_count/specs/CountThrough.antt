-- What a count-through maker means.
use Rattle.makers.specs.Meanings.{MakerMeaning}
use Rattle.maker_count.specs.declared.count_through.CountThroughMaker.{CountThroughMaker}

-- the type has what is known of the kind and its order as arguments too
abbrev pub maker_meaning : {W : Type 0} {kind : _} {ord : _} {eq : _} {partial : _} → CountThroughMaker W kind ord eq partial → MakerMeaning W
maker_meaning maker = maker.store
