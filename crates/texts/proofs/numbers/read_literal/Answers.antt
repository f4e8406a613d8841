use Rattle.std.proofs.Common.{arith}
use Rattle.std.proofs.lemmas.Grind.{common_steps}
use Rattle.texts.proofs.Literals.{literal_read}
use Rattle.texts.proofs.numbers.read_literal.Goals as goal

pub returns-in_err-read_number-in-45-clause-means : goal.returns-in_err-read_number-in-45-clause-means
returns-in_err-read_number-in-45-clause-means c = literal_read _ _ (grind (arith, common_steps))

pub returns-in_ok-read_number-in-45-clause-means : goal.returns-in_ok-read_number-in-45-clause-means
returns-in_ok-read_number-in-45-clause-means c = literal_read _ _ (grind (arith, common_steps))
