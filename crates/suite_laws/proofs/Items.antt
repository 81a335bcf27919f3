-- The items of a suite: how many, which is which, and the size and limit of each.
-- Assumes nothing.
use mathlib.Core.Path.{◌≡◌, sym, ◌∙◌, ap}
use mathlib.Core.Bool.{Bool, cond}
use mathlib.Core.List.{List, [], map}
use Prim.Native.Nat.{ℕ, ◌+◌, ◌≤◌, ◌<◌}
use native.Mathlib.Omega.{arith}
use borrow.Author.Tests.{lt-ltb, le-ltb}
use lib.ListN.{length, get_or, length-append, length-map, get_or-append, get_or-map}
use lib.Seq.{get_or-append-add}
use Rattle.lengths.specs.Lengths.{most_steps}
use Rattle.layout.specs.Layout.{Layout, word_size, requirements_in, unit_of, most_of}
use Rattle.layout.specs.Written.{Parts, Item, requirement_item, run_item, items_of}
use Rattle.suite_laws.proofs.Contents.{no_item, item_at}

module _ (form : Layout) (parts : Parts) where
  abbrev wanted : List Item
  wanted = map (requirement_item form) parts.requirements

  abbrev driven : List Item
  driven = map run_item parts.runs

  length_wanted : length wanted ≡ length parts.requirements
  length_wanted = length-map parts.requirements (requirement_item form)

  pub length_items : length (items_of form parts) ≡ length parts.requirements + length parts.runs
  length_items = omega (arith, length-append wanted driven, length_wanted, length-map parts.runs run_item)

  pub item_requirement : (q : ℕ) → q < length parts.requirements → item_at (items_of form parts) q ≡ requirement_item form (get_or parts.requirements q [])
  item_requirement q l =
      get_or-append wanted driven no_item q (omega (arith, length_wanted))
      ∙ get_or-map (requirement_item form) parts.requirements q []

  pub item_run : (j : ℕ) → item_at (items_of form parts) (length parts.requirements + j) ≡ run_item (get_or parts.runs j [])
  item_run j =
      ap (λ (n : ℕ). item_at (items_of form parts) (n + j)) (sym length_wanted)
      ∙ get_or-append-add wanted driven j no_item
      ∙ get_or-map run_item parts.runs j []

-- item k is a requirement below their number, and else a run
module _ (form : Layout) (file : List ℕ) (k : ℕ) where
  pub unit_requirement : k < requirements_in file → unit_of form file k ≡ form.row_size
  unit_requirement l = ap (λ (t : Bool). cond t form.row_size word_size) (lt-ltb k (requirements_in file) l)

  pub unit_run : requirements_in file ≤ k → unit_of form file k ≡ word_size
  unit_run l = ap (λ (t : Bool). cond t form.row_size word_size) (le-ltb k (requirements_in file) l)

  pub most_requirement : k < requirements_in file → most_of form file k ≡ form.most_rows
  most_requirement l = ap (λ (t : Bool). cond t form.most_rows most_steps) (lt-ltb k (requirements_in file) l)

  pub most_run : requirements_in file ≤ k → most_of form file k ≡ most_steps
  most_run l = ap (λ (t : Bool). cond t form.most_rows most_steps) (le-ltb k (requirements_in file) l)
