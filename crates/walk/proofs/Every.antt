-- The walk on every kind, every face and every target, computed: six faces are enough for a target that is met.
use Prim.Native.Nat.{ℕ, zero, suc, ◌≤◌}
use mathlib.Core.Bool.{Bool, true, false, ◌&&◌, beq, false≢true}
use mathlib.Core.Path.{◌≡◌, refl}
use lib.Dec.{eqb}
use Rattle.float.specs.Choice.{when◌then◌else◌}
use Rattle.cube.specs.Faces.{by_face, minus_or_plus}
use Rattle.cube.proofs.Six.{up_to, at, both, beq_is}
use Rattle.cube.proofs.Directions.{u_dir, v_dir}
use Rattle.walk.proofs.Kind.{Part, Kind, part_at, next_k, meets_k, real}

abbrev every_b : (Bool → Bool) → Bool
every_b p = p true && p false

every_b_at : (p : Bool → Bool) → every_b p ≡ true → (b : Bool) → p b ≡ true
every_b_at p h true = (both (p true) (p false) h).0
every_b_at p h false = (both (p true) (p false) h).1

every_p : (Part → Bool) → Bool
every_p p = every_b (λ a. every_b (λ b. every_b (λ c. p (record { s = a; g = b; l = c }))))

every_p_at : (p : Part → Bool) → every_p p ≡ true → (a : Part) → p a ≡ true
unfolding every_p
every_p_at p h a =
    every_b_at (λ c. p (record { s = a.s; g = a.g; l = c }))
    (every_b_at (λ b. every_b (λ c. p (record { s = a.s; g = b; l = c }))) (every_b_at (λ a. every_b (λ b. every_b (λ c. p (record { s = a; g = b; l = c })))) h a.s) a.g) a.l

-- ---- the walk on kinds
abbrev pub arrives : ℕ → ℕ → ℕ → Kind → Bool
arrives zero t f k = false
arrives (suc n) t f k = elim (eqb f t) [ true ↦ true | false ↦ arrives n t (next_k t f k) k ]

right : Kind → ℕ → ℕ → Bool
right k t f = elim (meets_k f k) [ true ↦ beq (arrives 6 t f k) (meets_k t k) | false ↦ true ]

right_all : Kind → Bool
right_all k = elim (real k) [ true ↦ up_to 5 (λ t. up_to 5 (λ f. right k t f)) | false ↦ true ]

all : every_p (λ a. every_p (λ b. every_p (λ c. right_all (record { x = a; y = b; z = c })))) ≡ true
unfolding every_p right_all right next_k meets_k real part_at u_dir v_dir minus_or_plus when◌then◌else◌ by_face
all = refl

-- ---- and at each
given : (b c : Bool) → (elim b [ true ↦ c | false ↦ true ]) ≡ true → b ≡ true → c ≡ true
given true c h e = h
given false c h e = absurd (false≢true e)

pub six_enough : (k : Kind) → real k ≡ true → (t f : ℕ) → t ≤ 5 → f ≤ 5 → meets_k f k ≡ true → arrives 6 t f k ≡ meets_k t k
unfolding right_all right
six_enough k r t f T F m =
    let a : right_all k ≡ true =
    every_p_at (λ c. right_all (record { x = k.x; y = k.y; z = c }))
    (every_p_at (λ b. every_p (λ c. right_all (record { x = k.x; y = b; z = c }))) (every_p_at (λ a. every_p (λ b. every_p (λ c. right_all (record { x = a; y = b; z = c })))) all k.x) k.y) k.z in
    let b = given (real k) (up_to 5 (λ t. up_to 5 (λ f. right k t f))) a r in
    let c = at 5 (λ f. right k t f) (at 5 (λ t. up_to 5 (λ f. right k t f)) b t T) f F in
    beq_is (arrives 6 t f k) (meets_k t k) (given (meets_k f k) (beq (arrives 6 t f k) (meets_k t k)) c m)
