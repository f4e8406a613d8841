-- The one proof of the list of worked examples. Most statements compute.
use Rattle.std.proofs.Common.{refl}
use Rattle.worked_examples.proofs.Opposites.{admits_nothing, both_clash, first_alone, second_alone}
use Rattle.worked_examples.proofs.Triangle.{least_of_three, keeps_two}
use Rattle.worked_examples.specs.Examples.{examples, AllHold}

pub examples_hold : AllHold examples
examples_hold = (refl, (refl, (refl, (refl, (refl, (admits_nothing, (both_clash, (first_alone, (second_alone, (least_of_three, (keeps_two, ((refl, refl), (refl, (refl, (refl, (refl, (refl, tt)))))))))))))))))
