-- A file whose contents are right is cut into its head, its entries and its bodies, and nothing is left over.
-- Assumes nothing.
use mathlib.Core.Path.{◌≡◌, refl, sym, ◌∙◌, ap, ap₂}
use mathlib.Core.List.{List, [], ◌∷◌, ◌++◌, append-nil, append_assoc}
use Prim.Native.Nat.{ℕ, zero, suc, ◌+◌, ◌*◌, ◌≤◌, ◌<◌}
use native.Mathlib.Omega.{arith}
use native.Mathlib.Decide.{dec_lt}
use lib.ListN.{length, get_or, take, drop, length-append, length-take, get_or-eq_default}
use lib.Seq.{length-take-le, take-length, take-add, drop-drop, get_or-take, get_or-drop}
use Rattle.figures.specs.Numbers.{tabulate}
use Rattle.laws.proofs.Tabulated.{length_tabulate}
use Rattle.layout.specs.Layout.{form1, head_size, form_in, conditions_in, requirements_in, runs_in, items_in, contents_end, entry_at, start_in, count_in, body_size, must_begin, body_in}
use Rattle.layout.specs.Written.{Item, entry_of, contents_of, bodies_of}
use Rattle.layout.specs.Checks.{Range}
use Rattle.suite_laws.proofs.Parts.{Bytes}
use Rattle.suite_laws.proofs.Little.{bytes_back}
use Rattle.suite_laws.proofs.Right.{ContentsRight}
use Rattle.suite_laws.proofs.Inside.{begin_in}
use Rattle.suite_laws.proofs.Contents.{bodies_append, contents_append}
use Rattle.suite_laws.proofs.Filed.{first_of, file_of_items}

-- item k as it stands in a file
abbrev pub found : List ℕ → ℕ → Item
found file k = record { count = count_in form1 file k; body = body_in form1 file k }

-- a part of bytes is bytes
pub bytes_part : (file : List ℕ) → Bytes file → (from size : ℕ) → Bytes (take size (drop from file))
bytes_part file small from size k = go (dec_lt k size)
  where
    go : Dec (k < size) → get_or (take size (drop from file)) k 0 < 256
    go (yes l) = omega (arith, get_or-take size (drop from file) k 0 l, get_or-drop from file k 0, small (from + k))
    go (no l) = omega (arith, get_or-eq_default (take size (drop from file)) 0 {n = k} (omega (arith, length-take size (drop from file))))

head_cut : (file : List ℕ) → 4 ≤ length file → take 4 file ≡ form_in file ∷ conditions_in file ∷ requirements_in file ∷ runs_in file ∷ []
head_cut [] l = absurd (omega arith)
head_cut (a ∷ []) l = absurd (omega arith)
head_cut (a ∷ b ∷ []) l = absurd (omega arith)
head_cut (a ∷ b ∷ c ∷ []) l = absurd (omega arith)
head_cut (a ∷ b ∷ c ∷ d ∷ file) l = refl

module _ (file : List ℕ) (small : Bytes file) (range : Range) (right : ContentsRight form1 range file) where
  abbrev many : ℕ
  many = items_in file

  abbrev first : ℕ
  first = contents_end form1 file

  abbrev up_to : ℕ → List Item
  up_to k = tabulate k (found file)

  -- the bodies so far, after what stands before them
  bodies_cut : (k : ℕ) → k ≤ many → take first file ++ bodies_of (up_to k) ≡ take (must_begin form1 file k) file
  unfolding must_begin tabulate
  bodies_cut zero l = append-nil (take first file)
  bodies_cut (suc k) l =
      let here = body_in form1 file k in
      let there : here ≡ take (body_size form1 file k) (drop (must_begin form1 file k) file) =
      ap (λ (n : ℕ). take (body_size form1 file k) (drop n file)) (right.entries k l).0 in
      ap (λ (b : List ℕ). take first file ++ b) (bodies_append (up_to k) (found file k ∷ []))
      ∙ sym (append_assoc (take first file) (bodies_of (up_to k)) (here ++ []))
      ∙ ap₂ ◌++◌ (bodies_cut k (omega arith)) (append-nil here ∙ there)
      ∙ sym (take-add (must_begin form1 file k) (body_size form1 file k) file)

  bodies_size : (k : ℕ) → k ≤ many → first + length (bodies_of (up_to k)) ≡ must_begin form1 file k
  bodies_size k l =
      let front = length-take-le first file right.inside in
      let whole = length-take-le (must_begin form1 file k) file (begin_in file range right k l) in
      omega (arith, ap length (bodies_cut k l), length-append (take first file) (bodies_of (up_to k)))

  entry_cut : (k : ℕ) → k < many → entry_of form1 (start_in form1 file k) (count_in form1 file k) ≡ take 4 (drop (entry_at form1 k) file)
  entry_cut k l =
      let inside = right.inside in
      let at = entry_at form1 k in
      ap₂ ◌++◌ (bytes_back file small 2 at (omega arith)) (bytes_back file small 2 (at + 2) (omega arith))
      ∙ ap (λ (b : List ℕ). take 2 (drop at file) ++ take 2 b) (sym (drop-drop 2 at file))
      ∙ sym (take-add 2 2 (drop at file))

  -- the entries so far, after the head
  entries_cut : (k : ℕ) → k ≤ many → take head_size file ++ contents_of form1 first (up_to k) ≡ take (entry_at form1 k) file
  unfolding tabulate
  entries_cut zero l = append-nil (take head_size file)
  entries_cut (suc k) l =
      let starts : first + length (bodies_of (up_to k)) ≡ start_in form1 file k = bodies_size k (omega arith) ∙ sym (right.entries k l).0 in
      let entry : entry_of form1 (first + length (bodies_of (up_to k))) (count_in form1 file k) ++ [] ≡ take 4 (drop (entry_at form1 k) file) =
      append-nil _ ∙ ap (λ (n : ℕ). entry_of form1 n (count_in form1 file k)) starts ∙ entry_cut k l in
      let next : entry_at form1 k + 4 ≡ entry_at form1 (suc k) = omega arith in
      ap (λ (b : List ℕ). take head_size file ++ b) (contents_append form1 first (up_to k) (found file k ∷ []))
      ∙ sym (append_assoc (take head_size file) (contents_of form1 first (up_to k)) _)
      ∙ ap₂ ◌++◌ (entries_cut k (omega arith)) entry
      ∙ sym (take-add (entry_at form1 k) 4 file)
      ∙ ap (λ (n : ℕ). take n file) next

  pub file_cut : file_of_items (form_in file) (conditions_in file) (requirements_in file) (runs_in file) (up_to many) ≡ file
  file_cut =
      let size = right.size in
      let same : first_of (up_to many) ≡ first = ap (λ (n : ℕ). head_size + 4 * n) (length_tabulate (found file) many) in
      ap₂ (λ (h : List ℕ) (n : ℕ). h ++ (contents_of form1 n (up_to many) ++ bodies_of (up_to many))) (sym (head_cut file size.0)) same
      ∙ sym (append_assoc (take head_size file) (contents_of form1 first (up_to many)) (bodies_of (up_to many)))
      ∙ ap (λ (l : List ℕ). l ++ bodies_of (up_to many)) (entries_cut many (omega arith))
      ∙ bodies_cut many (omega arith)
      ∙ ap (λ (n : ℕ). take n file) (sym right.end)
      ∙ take-length file
