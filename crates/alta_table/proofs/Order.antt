-- What terms share, and which stands before.
use Rattle.std.proofs.Common.{◌≡◌, ⊎_elim, ℕ, zero, suc, ◌+◌, ◌≤◌, ◌<◌, List, [], ◌∷◌, ◌++◌, length, get_or, take, drop, refl, ap, ◌∙◌, arith}
use Rattle.std.specs.Ordering.{nat_cmp}
use Rattle.std.specs.declared.cmp.Ordering.TheVariants.{Less, Equal, Greater}
use Rattle.std.proofs.lemmas.List.{drop_all}
use Rattle.std.proofs.lemmas.Bool.{cases_lt, lt-ltb, le-ltb, ne_eqb, eq-eqb}
use Rattle.alta_codec.specs.Order.{Precedes}
use Rattle.alta_table.specs.Terms.{shared_len}

pub cmp_less : (x b : ℕ) → x < b → nat_cmp x b ≡ Less
cmp_less x b h = rw (lt-ltb x b h) refl

pub cmp_equal : (x b : ℕ) → x ≡ b → nat_cmp x b ≡ Equal
cmp_equal x b e = rw (le-ltb x b (omega (arith, e)), eq-eqb x b e) refl

pub cmp_greater : (x b : ℕ) → b < x → nat_cmp x b ≡ Greater
cmp_greater x b h = rw (le-ltb x b (omega (arith, h)), ne_eqb x b (λ e. omega (arith, e, h))) refl

shared_more : (x : ℕ) (a t : List ℕ) → shared_len (x ∷ a) (x ∷ t) ≡ suc (shared_len a t)
shared_more x a t = let one : 1 + shared_len a t ≡ suc (shared_len a t) = omega arith in rw (eq-eqb x x refl) one

shared_none : (x b : ℕ) (a t : List ℕ) → x < b → shared_len (x ∷ a) (b ∷ t) ≡ 0
shared_none x b a t h = rw (ne_eqb x b (λ e. omega (arith, e, h))) refl

pub shared_is : (k : ℕ) (a : List ℕ) (b : ℕ) (r : List ℕ) → k ≤ length a → (k < length a → get_or a k 0 < b) → shared_len a (take k a ++ b ∷ r) ≡ k
shared_is zero [] b r le lower = refl
shared_is zero (x ∷ a) b r le lower = shared_none x b a r (lower (omega arith))
shared_is (suc k) [] b r le lower = absurd (omega (arith, le))
shared_is (suc k) (x ∷ a) b r le lower =
    shared_more x a (take k a ++ b ∷ r) ∙ ap suc (shared_is k a b r (omega (arith, le)) (λ lt. lower (omega (arith, lt))))

pub precedes_is : (k : ℕ) (a : List ℕ) (b : ℕ) (r : List ℕ) → k ≤ length a → (k < length a → get_or a k 0 < b) → Precedes a (take k a ++ b ∷ r)
precedes_is zero [] b r le lower = refl
precedes_is zero (x ∷ a) b r le lower = rw (cmp_less x b (lower (omega arith))) refl
precedes_is (suc k) [] b r le lower = absurd (omega (arith, le))
precedes_is (suc k) (x ∷ a) b r le lower =
    rw (cmp_equal x x refl) (precedes_is k a b r (omega (arith, le)) (λ lt. lower (omega (arith, lt))))

-- what is known of a term above another, by what they share
pub record Goes (a t : List ℕ) (k : ℕ) : Type 0 where
  pub within : k ≤ length a
  pub more : k < length t
  pub lower : k < length a → get_or a k 0 < get_or t k 0
  pub joined : take k a ++ drop k t ≡ t

goes_more : (x b : ℕ) (a t : List ℕ) (k : ℕ) → x ≡ b → Goes a t k → Goes (x ∷ a) (b ∷ t) (suc k)
goes_more x b a t k e g = record {
  within = omega (arith, g.within);
  more = omega (arith, g.more);
  lower = λ lt. g.lower (omega (arith, lt));
  joined = ap (λ (l : List ℕ). x ∷ l) g.joined ∙ ap (λ (y : ℕ). y ∷ t) e;
}

pub precedes_goes : (a t : List ℕ) → Precedes a t → Goes a t (shared_len a t)
precedes_goes [] [] h = absurd cc
precedes_goes [] (b ∷ t) h = record { within = omega arith; more = omega arith; lower = λ lt. absurd (omega (arith, lt)); joined = refl }
precedes_goes (x ∷ a) [] h = absurd cc
precedes_goes (x ∷ a) (b ∷ t) h =
    ⊎_elim (λ less. rw (shared_none x b a t less) (record { within = omega arith; more = omega arith; lower = λ lt. less; joined = refl }))
    (λ ge. ⊎_elim
    (λ above. let f = rw (cmp_greater x b above) at h in absurd cc)
    (λ le. let e : x ≡ b = omega (arith, ge, le) in
    let f = rw (cmp_equal x b e) at h in
    let one : 1 + shared_len a t ≡ suc (shared_len a t) = omega arith in
    rw (eq-eqb x b e, one) (goes_more x b a t (shared_len a t) e (precedes_goes a t f)))
    (cases_lt b x))
    (cases_lt x b)

shared_nil : (a : List ℕ) → shared_len a [] ≡ 0
shared_nil [] = refl
shared_nil (x ∷ a) = refl

-- behind the second term they share nothing more
pub shared_end : (a t : List ℕ) (len : ℕ) → length t ≤ len → shared_len (drop len a) (drop len t) ≡ 0
shared_end a t len le = ap (shared_len (drop len a)) (drop_all len t le) ∙ shared_nil (drop len a)
