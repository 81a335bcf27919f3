-- What a branch knows: a function ensures that its result r is y, and the branch says that r is x.
-- Assumes nothing.
use mathlib.Core.Path.{◌≡◌, sym, ◌∙◌, ap}
use mathlib.Core.Bool.{Bool, cond}

pub known : {A B : Type 0} (f : A → B) {r x y : A} → r ≡ y → r ≡ x → f x ≡ f y
known f is here = ap f (sym here ∙ is)

-- the same of a test that picks
pub chosen : {A : Type 0} (t : Bool) {r b : Bool} (x y : A) → r ≡ b → r ≡ t → cond t x y ≡ cond b x y
chosen t x y = known (λ u. cond u x y)

-- the same of an answer: what it says is y, and the branch says that it is x
pub said : {A B C : Type 0} (says : A → B) (f : B → C) {v x : A} {y : B} → says v ≡ y → v ≡ x → f (says x) ≡ f y
said says f is here = ap f (sym (ap says here) ∙ is)
