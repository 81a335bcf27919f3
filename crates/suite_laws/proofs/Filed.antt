-- A file of a head, contents and bodies: its entries and its end are right, and each body is read back.
-- Assumes nothing.
use mathlib.Core.Path.{◌≡◌, sym, ◌∙◌, ap, ap₂}
use mathlib.Core.Bool.{Bool, true, false, cond}
use mathlib.Core.List.{List, [], ◌∷◌, ◌++◌}
use Prim.Native.Nat.{ℕ, zero, suc, ◌+◌, ◌*◌, ◌^◌, ◌≤◌, ◌<◌}
use native.Mathlib.Omega.{arith}
use native.Mathlib.Nat.{add-zero}
use lib.Dec.{ltb}
use lib.ListN.{length, take, drop, length-append}
use lib.Seq.{take-length, drop-append-add}
use Rattle.lengths.specs.Lengths.{most_requirement_rows, most_steps}
use Rattle.laws.proofs.Passed.{Within}
use Rattle.layout.specs.Layout.{form1, head_size, requirements_in, items_in, start_in, count_in, unit_of, most_of, body_size, must_begin, body_in}
use Rattle.little.specs.Little.{little_at}
use Rattle.layout.specs.Written.{Item, contents_of, bodies_of}
use Rattle.suite_laws.proofs.Little.{read_past}
use Rattle.suite_laws.proofs.Contents.{item_at, length_contents, before, before_more, before_inside, start_at, count_at, body_at}
use Rattle.suite_laws.proofs.Right.{EntryRight}

-- where the bodies start, and the file
abbrev pub first_of : List Item → ℕ
first_of items = head_size + 4 * length items

abbrev pub file_of_items : ℕ → ℕ → ℕ → ℕ → List Item → List ℕ
file_of_items a b c d items = a ∷ b ∷ c ∷ d ∷ (contents_of form1 (first_of items) items ++ bodies_of items)

-- an item of so many bytes a row or step, and so many rows or steps at most
pub record ItemRight (unit most : ℕ) (item : Item) : Type 0 where
  pub sized : unit * item.count ≡ length item.body
  pub within : Within 1 most item.count

most_small : (b : Bool) → cond b most_requirement_rows most_steps ≤ most_steps
most_small true = omega arith
most_small false = omega arith

module _ (a b c d : ℕ) (items : List Item) where
  abbrev file : List ℕ
  file = file_of_items a b c d items

  abbrev contents : List ℕ
  contents = contents_of form1 (first_of items) items

  pub length_file : length file ≡ first_of items + length (bodies_of items)
  length_file = omega (arith, length-append contents (bodies_of items), length_contents (first_of items) items)

  module _ (small : length file < 256 ^ 2) (whole : length items ≡ items_in file)
      (right : (k : ℕ) → k < length items → ItemRight (unit_of form1 file k) (most_of form1 file k) (item_at items k)) where
    starts : (k : ℕ) → k < length items → start_in form1 file k ≡ first_of items + before items k
    starts k l =
        read_past 2 (a ∷ b ∷ c ∷ d ∷ []) (contents ++ bodies_of items) (4 * k)
        ∙ start_at (bodies_of items) items (first_of items) k l (omega (arith, before_inside items k, length_file))

    counts : (k : ℕ) → k < length items → count_in form1 file k ≡ (item_at items k).count
    counts k l =
        let further : 4 + 4 * k + 2 ≡ 4 + (4 * k + 2) = omega arith in
        ap (little_at 2 file) further
        ∙ read_past 2 (a ∷ b ∷ c ∷ d ∷ []) (contents ++ bodies_of items) (4 * k + 2)
        ∙ count_at (bodies_of items) items (first_of items) k l (omega (arith, (right k l).within.1, most_small (ltb k (requirements_in file))))

    sizes : (k : ℕ) → k < length items → body_size form1 file k ≡ length (item_at items k).body
    sizes k l = ap (λ (n : ℕ). unit_of form1 file k * n) (counts k l) ∙ (right k l).sized

    begins : (k : ℕ) → k ≤ length items → must_begin form1 file k ≡ first_of items + before items k
    unfolding must_begin
    begins zero l = ap (λ (n : ℕ). head_size + 4 * n) (sym whole) ∙ sym (add-zero (first_of items))
    begins (suc k) l = let h = begins k (omega arith) in omega (arith, sizes k l, before_more items k l)

    pub entries_right : (k : ℕ) → k < length items → EntryRight form1 file k
    entries_right k l =
        let n = counts k l in
        let w = (right k l).within in
        (starts k l ∙ sym (begins k (omega arith)), (omega arith, omega arith))

    pub bodies_read : (k : ℕ) → k < length items → body_in form1 file k ≡ (item_at items k).body
    bodies_read k l =
        let front = a ∷ b ∷ c ∷ d ∷ contents in
        let size : first_of items ≡ length front = omega (arith, length_contents (first_of items) items) in
        ap₂ (λ (m n : ℕ). take m (drop n file)) (sizes k l) (starts k l ∙ ap (λ (n : ℕ). n + before items k) size)
        ∙ ap (take (length (item_at items k).body)) (drop-append-add front (bodies_of items) (before items k))
        ∙ body_at items k l

    pub end_right : length file ≡ must_begin form1 file (items_in file)
    end_right =
        length_file
        ∙ ap (λ (l : List Item). first_of items + length (bodies_of l)) (sym (take-length items))
        ∙ sym (begins (length items) (omega arith))
        ∙ ap (must_begin form1 file) whole
