-- What an accepted outcome shows of the steps that led to it.
use Rattle.std.proofs.Common.{◌≡◌, Bool, true, false, Some, None, Ok, Err, Option, Result, refl, ap}
use Rattle.archive.specs.Reading.{and_then, or_fault, unless}

pub ok_same : {X E : Type 0} {x y : X} → ◌≡◌ {A = Result X E} (Ok x) (Ok y) → x ≡ y
ok_same e = cc

pub err_not_ok : {X E : Type 0} {x : X} {f : E} → ◌≡◌ {A = Result X E} (Err f) (Ok x) → ⊥
err_not_ok e = cc

pub and_then_ok : {X Y E : Type 0} (r : Result X E) (more : X → Result Y E) (y : Y) → and_then r more ≡ Ok y → (x : X) × (r ≡ Ok x) × (more x ≡ Ok y)
and_then_ok (Ok x) more y e = (x, refl, e)
and_then_ok (Err f) more y e = cc

pub unless_ok : {X E : Type 0} (good : Bool) (f : E) (more : Result X E) (x : X) → unless good f more ≡ Ok x → (good ≡ true) × (more ≡ Ok x)
unless_ok true f more x e = (refl, e)
unless_ok false f more x e = cc

-- a value that was there, or else a fault
pub step_ok : {X Y E : Type 0} (o : Option X) (f : E) (more : X → Result Y E) (y : Y) → and_then (or_fault o f) more ≡ Ok y → (x : X) × (o ≡ Some x) × (more x ≡ Ok y)
step_ok None f more y e = cc
step_ok (Some x) f more y e = (x, refl, e)

pub step_back : {X Y E : Type 0} (o : Option X) (f : E) (more : X → Result Y E) (x : X) → o ≡ Some x → and_then (or_fault o f) more ≡ more x
step_back o f more x e = ap (λ p. and_then (or_fault p f) more) e

pub unless_back : {X E : Type 0} (good : Bool) (f : E) (more : Result X E) → good ≡ true → unless good f more ≡ more
unless_back good f more e = ap (λ t. unless t f more) e
