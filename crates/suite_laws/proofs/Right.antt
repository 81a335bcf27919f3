-- A suite file passes exactly when its head, contents, end, requirements and runs are right, in plain logic.
-- Assumes nothing.
use mathlib.Core.Path.{◌≡◌, refl, ap}
use mathlib.Core.Logic.Iff
use mathlib.Core.Logic.{◌↔◌}
use mathlib.Core.Bool.{So, and-eq-true_iff}
use mathlib.Core.List.{List}
use Prim.Native.Nat.{ℕ, zero, suc, ◌+◌, ◌≤◌, ◌<◌}
use native.Mathlib.Omega.{arith}
use native.Mathlib.Decide.{ℕ_discrete}
use borrow.Author.Tests.{leb-true, le-leb, eqb-true, eq-eqb}
use lib.ListN.{length}
use Rattle.limits.specs.declared.Suite.{Suite}
use Rattle.figures.specs.declared.Refusal.TheVariants.{Entry, FileBytes, Form, Counts, ContentsCut, FileEnd}
use Rattle.figures.specs.Refusals.{Outcome}
use Rattle.figures.specs.Refusals.Outcome.{gives}
use Rattle.limits.specs.Limits.{file_of, least_bytes, most_bytes, most_conditions, most_runs}
use Rattle.laws.proofs.Given.{within_means}
use Rattle.laws.proofs.Order.{Passes, passes, passes_by, both_pass, test_passes, lowest_passes}
use Rattle.laws.proofs.Passed.{Within}
use Rattle.layout.specs.Layout.{entry_at, Layout, form_in, conditions_in, requirements_in, runs_in, items_in, contents_end, start_in, count_in, most_of, must_begin, entry_right}
use Rattle.layout.specs.Checks.{Range, of_suite, form_checked, counts_checked, contents_checked, entries_checked, end_checked, counts_of, contents_of_file, requirement_of_file, run_of_file, in_turn, requirements_of_file, runs_of_file, file_says}

-- checks in turn pass where each does
pub in_turn_passes : (m i : ℕ) (f : ℕ → Outcome (Unit {0})) → Passes (in_turn m i f) ↔ ((k : ℕ) → i ≤ k → k < i + m → Passes (f k))
unfolding in_turn
in_turn_passes zero i f = (λ _ k l g. absurd (omega arith), λ _. (tt, refl))
in_turn_passes (suc m) i f =
    let later = in_turn_passes m (suc i) f in
    Iff.trans (both_pass (f i) (in_turn m (suc i) f)) (
      λ h k l g. go h.0 (later.0 h.1) k l g (ℕ_discrete i k),
      λ h. (h i (omega arith) (omega arith), later.1 (λ k l g. h k (omega arith) (omega arith))),
    )
  where
    go : Passes (f i) → ((k : ℕ) → suc i ≤ k → k < suc i + m → Passes (f k)) → (k : ℕ) → i ≤ k → k < i + suc m → Dec (i ≡ k) → Passes (f k)
    go h hs k l g (yes e) = rw e at h
    go h hs k l g (no e) = hs k (omega arith) (omega arith)

-- an entry's start is where its body must begin, and its count within the limits
abbrev pub EntryRight : Layout → List ℕ → ℕ → Type 0
EntryRight form file k = (start_in form file k ≡ must_begin form file k) × Within 1 (most_of form file k) (count_in form file k)

-- 1 to 6 are not given
pub record ContentsRight (form : Layout) (range : Range) (file : List ℕ) : Type 0 where
  pub size : Within least_bytes most_bytes (length file)
  pub form_right : form_in file ≡ form.form
  pub conditions : Within 1 most_conditions (conditions_in file)
  pub requirements : Within range.least range.most (requirements_in file)
  pub runs : Within 1 most_runs (runs_in file)
  pub inside : contents_end form file ≤ length file
  pub entries : (k : ℕ) → k < items_in file → EntryRight form file k
  pub end : length file ≡ must_begin form file (items_in file)

-- nor are 8, 9 and 11
pub record FileRight (form : Layout) (file : List ℕ) : Type 0 where
  pub contents : ContentsRight form of_suite file
  pub requirements : (q : ℕ) → q < requirements_in file → Passes (requirement_of_file form file q)
  pub runs : (j : ℕ) → j < runs_in file → Passes (run_of_file form file j)

module _ (form : Layout) (file : List ℕ) where
  pub size_passes : Passes (file_of (length file)) ↔ Within least_bytes most_bytes (length file)
  unfolding file_of
  size_passes = Iff.trans (test_passes tt FileBytes _) (within_means least_bytes most_bytes (length file))

  pub form_passes : Passes (form_checked form file) ↔ (form_in file ≡ form.form)
  form_passes = Iff.trans (test_passes tt Form _) (eqb-true _ _, eq-eqb _ _)

  pub inside_passes : Passes (contents_checked form file) ↔ (contents_end form file ≤ length file)
  inside_passes = Iff.trans (test_passes tt ContentsCut _) (leb-true _ _, le-leb _ _)

  end_passes : Passes (end_checked form file) ↔ (length file ≡ must_begin form file (items_in file))
  end_passes = Iff.trans (test_passes tt FileEnd _) (eqb-true _ _, eq-eqb _ _)

  entry_passes : (k : ℕ) → So (entry_right form file k) ↔ EntryRight form file k
  entry_passes k = Iff.trans (and-eq-true_iff _ _) (Iff.and (eqb-true _ _, eq-eqb _ _) (within_means 1 _ _))

  pub entries_pass : Passes (entries_checked form file) ↔ ((k : ℕ) → k < items_in file → EntryRight form file k)
  entries_pass =
      Iff.trans (lowest_passes (λ x. Entry record { 0 = entry_at form x }) _ _)
      (λ h k l. (entry_passes k).0 (h k (omega arith) l), λ h k _ l. (entry_passes k).1 (h k l))

  module _ (range : Range) where
    pub counts_pass :
        Passes (counts_checked range file)
        ↔ (Within 1 most_conditions (conditions_in file) × (Within range.least range.most (requirements_in file) × Within 1 most_runs (runs_in file)))
    counts_pass =
        Iff.trans (test_passes tt Counts _)
        (Iff.trans (and-eq-true_iff _ _)
        (Iff.and (within_means 1 most_conditions _)
        (Iff.trans (and-eq-true_iff _ _) (Iff.and (within_means range.least range.most _) (within_means 1 most_runs _)))))

    -- 1 to 6 in order; what is given are the counts
    in_order :
        (s : Suite) →
        (contents_of_file form range file ≡ gives s)
        ↔ (Within least_bytes most_bytes (length file)
        × ((form_in file ≡ form.form)
        × ((Within 1 most_conditions (conditions_in file) × (Within range.least range.most (requirements_in file) × Within 1 most_runs (runs_in file)))
        × ((contents_end form file ≤ length file)
        × (((k : ℕ) → k < items_in file → EntryRight form file k)
        × ((length file ≡ must_begin form file (items_in file)) × (counts_of file ≡ s)))))))
    unfolding contents_of_file
    in_order s =
        Iff.trans (passes _ _ s)
        (Iff.and size_passes
        (Iff.trans (passes _ _ s)
        (Iff.and form_passes
        (Iff.trans (passes _ _ s)
        (Iff.and counts_pass
        (Iff.trans (passes _ _ s)
        (Iff.and inside_passes
        (Iff.trans (passes _ _ s)
        (Iff.and entries_pass (Iff.trans (passes (end_checked form file) (gives (counts_of file)) s) (Iff.and end_passes (λ e. cc, ap gives))))))))))))

    pub contents_give : (s : Suite) → (contents_of_file form range file ≡ gives s) ↔ (ContentsRight form range file × (counts_of file ≡ s))
    contents_give s =
        Iff.trans (in_order s) (
          λ h.
              let (size, (form_right, ((conditions, (requirements, runs)), (inside, (entries, (end, given)))))) = h in (
                record {
                  size = size;
                  form_right = form_right;
                  conditions = conditions;
                  requirements = requirements;
                  runs = runs;
                  inside = inside;
                  entries = entries;
                  end = end;
                },
                given,
              ),
          λ h.
              let c = h.0 in
              (c.size, (c.form_right, ((c.conditions, (c.requirements, c.runs)), (c.inside, (c.entries, (c.end, h.1)))))),
        )

  -- and the rest
  pub file_gives : (s : Suite) → (file_says form file ≡ gives s) ↔ (FileRight form file × (counts_of file ≡ s))
  unfolding file_says
  file_gives s = (
    λ e.
        let (counts, (first, later)) = (passes_by _ (contents_of_file form of_suite file) s).0 e in
        let (contents, is) = (contents_give of_suite counts).0 first in
        let (requirements, after) = (passes (requirements_of_file form file) _ s).0 later in
        let (runs, given) = (passes (runs_of_file form file) (gives counts) s).0 after in (
          record {
            contents = contents;
            requirements = λ q l. (in_turn_passes (requirements_in file) 0 _).0 requirements q (omega arith) (omega arith);
            runs = λ j l. (in_turn_passes (runs_in file) 0 _).0 runs j (omega arith) (omega arith);
          },
          cc,
        ),
    λ h.
        let c = h.0 in
        (passes_by _ (contents_of_file form of_suite file) s).1 (
          counts_of file,
          (
            (contents_give of_suite (counts_of file)).1 (c.contents, refl),
            (passes (requirements_of_file form file) _ s).1 (
              (in_turn_passes (requirements_in file) 0 _).1 (λ q _ l. c.requirements q (omega arith)),
              (passes (runs_of_file form file) _ s).1 ((in_turn_passes (runs_in file) 0 _).1 (λ j _ l. c.runs j (omega arith)), ap gives h.1),
            ),
          ),
        ),
  )
