-- The contents and bodies of a list of items: joined, their lengths, the fields of each entry and the place of each body.
-- Assumes nothing.
use mathlib.Core.Path.{◌≡◌, refl, sym, ◌∙◌, ap}
use mathlib.Core.List.{List, [], ◌∷◌, ◌++◌, append_assoc}
use Prim.Native.Nat.{ℕ, zero, suc, ◌+◌, ◌*◌, ◌^◌, ◌≤◌, ◌<◌}
use native.Mathlib.Omega.{arith}
use native.Mathlib.Nat.{add-zero}
use lib.ListN.{length, get_or, take, drop, length-append, take-append-drop}
use lib.Seq.{take-suc, split_at, take-append_seam, drop-append_seam}
use Rattle.layout.specs.Layout.{Layout, form1}
use Rattle.little.specs.Little.{little, little_at}
use Rattle.layout.specs.Written.{Item, entry_of, contents_of, bodies_of}
use Rattle.suite_laws.proofs.Little.{read_past, number_back}

-- the item past the end
abbrev pub no_item : Item
no_item = record { count = 0; body = [] }

abbrev pub item_at : List Item → ℕ → Item
item_at items k = get_or items k no_item

pub bodies_append : (s t : List Item) → bodies_of (s ++ t) ≡ bodies_of s ++ bodies_of t
bodies_append [] t = refl
bodies_append (x ∷ s) t =
    ap (λ (l : List ℕ). x.body ++ l) (bodies_append s t) ∙ sym (append_assoc x.body (bodies_of s) (bodies_of t))

pub contents_append :
    (form : Layout) (start : ℕ) (s t : List Item) → contents_of form start (s ++ t) ≡ contents_of form start s ++ contents_of form (start + length (bodies_of s)) t
contents_append form start [] t = ap (λ (k : ℕ). contents_of form k t) (sym (add-zero start))
contents_append form start (x ∷ s) t =
    let here = entry_of form start x.count in
    let next = start + length x.body in
    let far : next + length (bodies_of s) ≡ start + length (x.body ++ bodies_of s) = omega (arith, length-append x.body (bodies_of s)) in
    ap (λ (l : List ℕ). here ++ l) (contents_append form next s t ∙ ap (λ (k : ℕ). contents_of form next s ++ contents_of form k t) far)
    ∙ sym (append_assoc here (contents_of form next s) (contents_of form (start + length (x.body ++ bodies_of s)) t))

pub length_contents : (start : ℕ) (items : List Item) → length (contents_of form1 start items) ≡ 4 * length items
length_contents start [] = refl
length_contents start (x ∷ items) = let h = length_contents (start + length x.body) items in omega arith

-- the bytes of the bodies before item k
abbrev pub before : List Item → ℕ → ℕ
before items k = length (bodies_of (take k items))

pub before_more : (items : List Item) (k : ℕ) → k < length items → before items (suc k) ≡ before items k + length (item_at items k).body
before_more items k l =
    let here = (item_at items k).body in
    let joined : bodies_of (take (suc k) items) ≡ bodies_of (take k items) ++ (here ++ []) =
    ap bodies_of (take-suc items k no_item l) ∙ bodies_append (take k items) (item_at items k ∷ []) in
    ap length joined ∙ omega (arith, length-append (bodies_of (take k items)) (here ++ []), length-append here [])

pub before_inside : (items : List Item) (k : ℕ) → before items k ≤ length (bodies_of items)
before_inside items k =
    let whole = ap (λ (l : List Item). length (bodies_of l)) (take-append-drop k items) in
    omega
    (arith, ap length (bodies_append (take k items) (drop k items)), length-append (bodies_of (take k items)) (bodies_of (drop k items)))

-- the two fields of entry k
module _ (rest : List ℕ) where
  pub start_at :
      (items : List Item) (start k : ℕ) → k < length items → start + before items k < 256 ^ 2 →
      little_at 2 (contents_of form1 start items ++ rest) (4 * k) ≡ start + before items k
  start_at [] start k l small = absurd (omega arith)
  start_at (x ∷ items) start zero l small = number_back 2 start [] (omega arith) ∙ sym (add-zero start)
  start_at (x ∷ items) start (suc k) l small =
      let further : 4 * suc k ≡ 4 + 4 * k = omega arith in
      let next = start + length x.body in
      let far : next + before items k ≡ start + before (x ∷ items) (suc k) = omega (arith, length-append x.body (bodies_of (take k items))) in
      ap (little_at 2 (contents_of form1 start (x ∷ items) ++ rest)) further
      ∙ read_past 2 (entry_of form1 start x.count) (contents_of form1 next items ++ rest) (4 * k)
      ∙ start_at items next k (omega arith) (omega arith)
      ∙ far

  pub count_at :
      (items : List Item) (start k : ℕ) → k < length items → (item_at items k).count < 256 ^ 2 →
      little_at 2 (contents_of form1 start items ++ rest) (4 * k + 2) ≡ (item_at items k).count
  count_at [] start k l small = absurd (omega arith)
  count_at (x ∷ items) start zero l small =
      read_past 2 (little 2 start) (little 2 x.count ++ (contents_of form1 (start + length x.body) items ++ rest)) 0
      ∙ number_back 2 x.count [] small
  count_at (x ∷ items) start (suc k) l small =
      let further : 4 * suc k + 2 ≡ 4 + (4 * k + 2) = omega arith in
      let next = start + length x.body in
      ap (little_at 2 (contents_of form1 start (x ∷ items) ++ rest)) further
      ∙ read_past 2 (entry_of form1 start x.count) (contents_of form1 next items ++ rest) (4 * k + 2)
      ∙ count_at items next k (omega arith) small

-- body k starts where the bodies before it end
pub body_at :
    (items : List Item) (k : ℕ) → k < length items →
    take (length (item_at items k).body) (drop (before items k) (bodies_of items)) ≡ (item_at items k).body
body_at items k l =
    let here = (item_at items k).body in
    let front = bodies_of (take k items) in
    let after = here ++ bodies_of (drop (suc k) items) in
    let cut : bodies_of items ≡ front ++ after = ap bodies_of (split_at items k no_item l) ∙ bodies_append (take k items) _ in
    ap (λ (l : List ℕ). take (length here) (drop (length front) l)) cut
    ∙ ap (take (length here)) (drop-append_seam front after)
    ∙ take-append_seam here (bodies_of (drop (suc k) items))
