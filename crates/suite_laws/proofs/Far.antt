-- A body that would begin past 65,535 is 5 at its entry: no start of two bytes is there.
-- Assumes nothing.
use mathlib.Core.Path.{◌≡◌, ap}
use mathlib.Core.Bool.{Bool, false, ◌&&◌}
use mathlib.Core.List.{List}
use Prim.Native.Nat.{ℕ, ◌<◌}
use native.Mathlib.Omega.{arith}
use borrow.Author.Tests.{ne_eqb}
use Rattle.limits.specs.Limits.{within}
use Rattle.layout.specs.Layout.{form1, entry_at, start_in, count_in, most_of, must_begin, entry_right}
use Rattle.suite_laws.proofs.Little.{number_small}
use Rattle.suite_laws.proofs.Parts.{Bytes}

pub far_body : (file : List ℕ) (k : ℕ) → Bytes file → 65535 < must_begin form1 file k → entry_right form1 file k ≡ false
far_body file k small far =
    ap (λ (b : Bool). b && within 1 (most_of form1 file k) (count_in form1 file k))
    (ne_eqb (start_in form1 file k) (must_begin form1 file k) (λ e. omega (arith, number_small file small 2 (entry_at form1 k))))
