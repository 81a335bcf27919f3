-- `lines::Page::put_refusal_line` meets its contract: the word, the number and the place are put one after the other, and 64 bytes hold them.
-- A number in a struct that was lent or that a call gave is a machine word, so it takes at most 20 digits.
use native.Mathlib.Omega.{arith}
use mathlib.Core.Path.{ap}
use mathlib.Core.List.{append_assoc}
use lib.ListN.{length, length-append}
use Prim.Native.Nat.{ℕ}
use Rattle.lines.specs.Lines.{refused_line}
use Rattle.lines.proofs.Width.{width_20}
use Rattle.lines.proofs.Page.put_refusal_line.Goals as goal

pub put_number-requires : goal.put_number-requires
put_number-requires g c =
    let fits = c.well_formed in
    (omega arith, omega (arith, length-append {A = ℕ}, ap length c.put_word.ensures, width_20 _ c.well_formed.1.0.1.1.0.1))

pub put_number-requires-2 : goal.put_number-requires-2
put_number-requires-2 g c =
    let fits = c.well_formed in
    (omega arith, omega (arith, length-append {A = ℕ}, ap length c.put_word.ensures, ap length c.put_number.ensures, width_20 _ c.well_formed.1.0.1.1.0.1, width_20 c.printed.result.0 c.printed.type_inv.1.1.0.1))

pub returns : goal.returns
unfolding refused_line
returns g c = rw (c.put_number-2.ensures, c.put_number.ensures, c.put_word.ensures, c.printed.ensures) (simp append_assoc)
