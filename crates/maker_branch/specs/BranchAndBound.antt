-- What a branch-and-bound maker means.
use Rattle.makers.specs.Meanings.{MakerMeaning}
use Rattle.maker_branch.specs.declared.branch_and_bound.BranchAndBoundMaker.{BranchAndBoundMaker}

-- the type has what is known of the kind and its order as arguments too
abbrev pub maker_meaning : {W : Type 0} {kind : _} {ord : _} {eq : _} {partial : _} → BranchAndBoundMaker W kind ord eq partial → MakerMeaning W
maker_meaning maker = maker.store
