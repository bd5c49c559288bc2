-- What is held once some lists are marked.
use Rattle.std.proofs.Common.{◌≡◌, ℕ, zero, suc, ◌+◌, ◌<◌, ◌≤◌, List, [], ◌∷◌, ◌++◌, length, get_or, map, take, Bool, true, false, cond, refl, sym, ap, ◌∙◌, arith, add-zero, add-one}
use Rattle.std.specs.List.{All}
use Rattle.std.proofs.lemmas.List.{length-map, take_all}
use Rattle.std.proofs.lemmas.List.Elements.{All-get_or}
use Rattle.alta_gather.specs.Holding.{has, holders_from, held_by, held_in, with_list, IsMarked}
use Rattle.alta_gather.specs.declared.held.Held.{Held}
use Rattle.alta_gather.specs.declared.held.Held.TheVariants.{Never}

cond_append : (b : Bool) (k : ℕ) (longer short end : List ℕ) → longer ≡ short ++ end → cond b (k ∷ longer) longer ≡ cond b (k ∷ short) short ++ end
cond_append true k longer short end e = ap (λ xs. k ∷ xs) e
cond_append false k longer short end e = e

holders_more : (k i : ℕ) (lists : List (List ℕ)) (at : ℕ) → i < length lists
    → holders_from k (take (suc i) lists) at ≡ holders_from k (take i lists) at ++ cond (has (get_or lists i []) at) ((k + i) ∷ []) []
holders_more k i [] at lt = absurd (omega arith)
holders_more k zero (list ∷ lists) at lt = ap (λ n. cond (has list at) (n ∷ []) []) (sym (add-zero k))
holders_more k (suc i) (list ∷ lists) at lt =
    let far : k + 1 + i ≡ k + suc i = omega arith in
    cond_append (has list at) k (holders_from (k + 1) (take (suc i) lists) at) (holders_from (k + 1) (take i lists) at) (cond (has (get_or lists i []) at) ((k + suc i) ∷ []) [])
    (holders_more (k + 1) i lists at (omega arith) ∙ ap (λ n. holders_from (k + 1) (take i lists) at ++ cond (has (get_or lists i []) at) (n ∷ []) []) far)

held_by_more : (hs : List ℕ) (b : Bool) (i : ℕ) → held_by (hs ++ cond b (i ∷ []) []) ≡ cond b (with_list i (held_by hs)) (held_by hs)
held_by_more [] true i = refl
held_by_more [] false i = refl
held_by_more (h ∷ []) true i = refl
held_by_more (h ∷ []) false i = refl
held_by_more (h ∷ g ∷ hs) true i = refl
held_by_more (h ∷ g ∷ hs) false i = refl

held_more : (lists : List (List ℕ)) (i at : ℕ) → i < length lists
    → held_in (take (suc i) lists) at ≡ cond (has (get_or lists i []) at) (with_list i (held_in (take i lists) at)) (held_in (take i lists) at)
held_more lists i at lt =
    let first : 0 + i ≡ i = omega arith in
    ap held_by (holders_more 0 i lists at lt ∙ ap (λ n. holders_from 0 (take i lists) at ++ cond (has (get_or lists i []) at) (n ∷ []) []) first)
    ∙ held_by_more (holders_from 0 (take i lists) at) (has (get_or lists i []) at) i

-- the first lists are marked at each place
pub record IsHeldTo (places : List ℕ) (lists : List (List ℕ)) (i : ℕ) (held : List Held) : Type 0 where
  pub long : length held ≡ length places
  pub each : (k : ℕ) (d : Held) → k < length places → get_or held k d ≡ held_in (take i lists) (get_or places k 0)

pub held_none : (places : List ℕ) (lists : List (List ℕ)) (held : List Held) → length held ≡ length places → All (λ h. h ≡ Never) held → IsHeldTo places lists 0 held
held_none places lists held long never = record { long = long; each = λ k d lt. All-get_or (λ h. h ≡ Never) held k d (omega arith) never }

pub held_next : (places : List ℕ) (lists : List (List ℕ)) (i : ℕ) (old new : List Held) → i < length lists → IsHeldTo places lists i old
    → IsMarked places (get_or lists i []) i old new → IsHeldTo places lists (i + 1) new
held_next places lists i old new lt before marked = record {
  long = marked.long ∙ before.long;
  each = λ k d within.
      marked.marked k d within
      ∙ ap (λ h. cond (has (get_or lists i []) (get_or places k 0)) (with_list i h) h) (before.each k d within)
      ∙ sym (held_more lists i (get_or places k 0) lt)
      ∙ ap (λ n. held_in (take n lists) (get_or places k 0)) (sym (add-one i));
}

extended : {X : Type 0} (xs ys : List X) → length xs ≡ length ys → ((i : ℕ) (d : X) → i < length xs → get_or xs i d ≡ get_or ys i d) → xs ≡ ys
extended [] [] long each = refl
extended [] (y ∷ ys) long each = absurd (omega (arith, long))
extended (x ∷ xs) [] long each = absurd (omega (arith, long))
extended (x ∷ xs) (y ∷ ys) long each =
    let first : x ≡ y = each 0 x (omega arith) in
    let rest : xs ≡ ys = extended xs ys (omega (arith, long)) (λ i d lt. each (suc i) d (omega arith)) in
    λ j. first j ∷ rest j

get_or_mapped : (f : ℕ → Held) (xs : List ℕ) (k : ℕ) (d : Held) → k < length xs → get_or (map f xs) k d ≡ f (get_or xs k 0)
get_or_mapped f [] k d lt = absurd (omega arith)
get_or_mapped f (x ∷ xs) zero d lt = refl
get_or_mapped f (x ∷ xs) (suc k) d lt = get_or_mapped f xs k d (omega arith)

pub held_all : (places : List ℕ) (lists : List (List ℕ)) (i : ℕ) (held : List Held) → length lists ≤ i → IsHeldTo places lists i held → held ≡ map (held_in lists) places
held_all places lists i held past is =
    extended held (map (held_in lists) places) (is.long ∙ sym (length-map places (held_in lists)))
    (λ k d lt.
    let within : k < length places = omega (arith, is.long) in
    is.each k d within ∙ ap (λ ls. held_in ls (get_or places k 0)) (take_all i lists past) ∙ sym (get_or_mapped (held_in lists) places k d within))
