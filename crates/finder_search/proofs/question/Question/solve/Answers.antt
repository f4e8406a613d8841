use Rattle.std.proofs.Common.{true, refl, sym, ap, subst, arith}
use Rattle.std.proofs.lemmas.Bool.{both_ways}
use Rattle.finder_search.specs.Propagation.{no_clause}
use Rattle.finder_search.specs.Trail.{unset, Within}
use Rattle.finder_search.proofs.Beginning.{root_within, root_unset}
use Rattle.finder_search.proofs.question.Question.solve.Goals as goal

pub try_next-requires : goal.try_next-requires
try_next-requires c = record {
  sound = c.propagate_at_root.ensures.sound;
  quiet = c.in_ok-propagate_at_root.ensures.propagated no_clause (λ k e at never. absurd (both_ways true never refl));
  within = c.propagate_at_root.ensures.extends.within (subst (Within 0) (sym c.requires.unset) (root_within c.args.self.now.tables.now.n));
  room = omega (arith, c.propagate_at_root.ensures.extends.fewer, ap unset c.requires.unset, root_unset c.args.self.now.tables.now.n, c.args.self.now.few);
  long = c.requires.long;
}
