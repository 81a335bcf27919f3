-- `contents::contents_of` meets its contract: every entry passed is right, so the first that is not is the lowest, and the last body's end follows.
use mathlib.Core.Path.{◌≡◌}
use Prim.Native.Nat.{◌+◌, ◌*◌, ◌≤◌}
use Rattle.laws.proofs.Lowest.{Holds}
use Rattle.layout.specs.Layout.{form1, must_begin, entry_right}
use Rattle.contents.proofs.contents_of.Given as goal

abbrev pub invariant-loop-k : goal.invariant-loop-k
invariant-loop-k l = (l.begin ≡ must_begin form1 l.file l.k) × (l.begin ≤ 2048 + 262140 * l.k) × Holds (entry_right form1 l.file) 0 l.k
