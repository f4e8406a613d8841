use Rattle.std.proofs.Common.{◌≡◌, ◌++◌, string_bytes, flat_map, decimal, take}
use Rattle.sessions.proofs.printing.put_values.Given as goal

abbrev pub invariant-loop-value : goal.invariant-loop-value
invariant-loop-value l = string_bytes l.output ≡ string_bytes l.fn.output ++ flat_map decimal (take l.value-index l.values)
