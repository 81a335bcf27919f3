-- `cond_lines::put_cond_line` meets its contract: the word, the number and the answer are put one after the other, and 15 bytes hold them.
use native.Mathlib.Omega.{arith}
use mathlib.Core.Path.{ap}
use Prim.Native.Nat.{ℕ}
use lib.ListN.{length, length-append}
use Rattle.lines.proofs.Width.{width_2}
use Rattle.cond_lines.proofs.put_cond_line.Goals as goal

pub put_number-requires : goal.put_number-requires
put_number-requires g c =
    let fits = c.well_formed in
    (omega arith, omega (arith, length-append {A = ℕ}, width_2, ap length c.put_word.ensures))

pub put_answer-requires : goal.put_answer-requires
put_answer-requires g c =
    let fits = c.well_formed in
    (omega arith, omega (arith, length-append {A = ℕ}, width_2, ap length c.put_word.ensures, ap length c.put_number.ensures))

pub returns-clause-ends : goal.returns-clause-ends
returns-clause-ends g c =
    omega (arith, length-append {A = ℕ}, width_2, ap length c.put_word.ensures, ap length c.put_number.ensures, c.put_answer.ensures.ends)
