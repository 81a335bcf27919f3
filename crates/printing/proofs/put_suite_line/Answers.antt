-- `printing::put_suite_line` meets its contract: the word and the two numbers are put one after the other, and 12 bytes hold them.
use native.Mathlib.Omega.{arith}
use mathlib.Core.Path.{ap}
use Prim.Native.Nat.{ℕ}
use lib.ListN.{length, length-append}
use Rattle.lines.proofs.Width.{width_2}
use Rattle.printing.proofs.put_suite_line.Goals as goal

pub put_number-requires : goal.put_number-requires
put_number-requires g c =
    let fits = c.well_formed in
    (omega arith, omega (arith, length-append {A = ℕ}, width_2, ap length c.put_word.ensures))

pub put_number-requires-2 : goal.put_number-requires-2
put_number-requires-2 g c =
    let fits = c.well_formed in
    (omega arith, omega (arith, length-append {A = ℕ}, width_2, ap length c.put_word.ensures, ap length c.put_number.ensures))

pub returns-clause-ends : goal.returns-clause-ends
returns-clause-ends g c =
    omega (arith, length-append {A = ℕ}, width_2, ap length c.put_word.ensures, ap length c.put_number.ensures, ap length c.put_number-2.ensures)
