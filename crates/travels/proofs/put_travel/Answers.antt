-- `travels::put_travel` meets its contract: the sign where there is one, and then the digits, are 10 bytes at most.
use native.Mathlib.Omega.{arith}
use mathlib.Core.Path.{◌∙◌, ap}
use Prim.Native.Nat.{ℕ}
use lib.ListN.{length, length-append}
use Rattle.lines.specs.Lines.{decimal}
use Rattle.lines.proofs.Fields.{length_put}
use Rattle.travels.proofs.OneLine.{digits_few}
use Rattle.travels.proofs.put_travel.Goals.{then-travel-lt0, else-travel-lt0}
use Rattle.travels.proofs.put_travel.Goals as goal

pub put_number-requires : goal.put_number-requires
put_number-requires g c =
    let fits = c.well_formed in
    let few = digits_few c.args.travel.0 c.requires.0 c.distance.ensures in (
      omega arith,
      elim c.if-travel-lt0.branch [
        | then-travel-lt0 w ↦ rw w.page-is (omega (arith, length-append {A = ℕ}, ap length w.put_word.ensures, few, c.requires.1))
        | else-travel-lt0 w ↦ rw w.page-is (omega (arith, few, c.requires.1))
      ],
    )

pub returns-clause-ends : goal.returns-clause-ends
returns-clause-ends g c =
    let few = digits_few c.args.travel.0 c.requires.0 c.distance.ensures in
    let all = ap length c.put_number.ensures ∙ length_put c.if-travel-lt0.page.text.items (decimal c.distance.result.0) 10 in
    elim c.if-travel-lt0.branch [
      | then-travel-lt0 w ↦
          let e = rw w.page-is at all in omega (arith, e, few, length-append {A = ℕ}, ap length w.put_word.ensures)
      | else-travel-lt0 w ↦ let e = rw w.page-is at all in omega (arith, e, few)
    ]
