-- What is placed meets nothing that is taken, and nothing else that is placed.
use Rattle.std.proofs.Common.{◌≡◌, ⊎_elim, inl, inr, ℕ, List, [], ◌∷◌, ◌++◌, length, drop, zero, suc, refl, sym, ap, subst, Result, Ok, Err, append_assoc}
use Rattle.std.specs.List.{All}
use Rattle.std.proofs.lemmas.List.Elements.{All-nil, All-cons, All-head, All-tail}
use Rattle.alta_codec.specs.declared.extent.Extent.{Extent}
use Rattle.alta_level.specs.Segments.{segment_bytes}
use Rattle.alta_content.specs.declared.content.Content.{Content}
use Rattle.alta_root.specs.Gaps.{IsGap}
use Rattle.alta_root.specs.Root.{AreApart}
use Rattle.alta_meaning.specs.Levels.{Level}
use Rattle.alta_meaning.specs.Work.{Coming, stays, anew, extents_in}
use Rattle.alta_meaning.specs.Chain.{◌>>=◌}
use Rattle.alta_meaning.specs.Working.{Full, Placed, in_front, placed, placed_levels, AllApart, staying, LiesWithin}
use Rattle.alta_meaning.proofs.FullLaws.{placed_first}
use Rattle.alta_meaning.proofs.KeptStates.{ok_is, err_ok}
use Rattle.alta_content.proofs.Elements.{all_left, all_right}

pub swapped : (a b : Extent) → AreApart a b → AreApart b a
swapped a b apart = ⊎_elim (λ before. inr before) (λ behind. inl behind) apart

-- a gap beside what is taken and others
IsFree : List Extent → ℕ → Extent → Type 0
IsFree taken limit extent = (extra : List Extent) × IsGap (taken ++ extra) extent.bytes limit extent.place

free_clear : (taken : List Extent) (limit : ℕ) (extent : Extent) → IsFree taken limit extent → All (AreApart extent) taken
unfolding IsFree
free_clear taken limit extent free = all_left (AreApart extent) taken free.0 free.1.apart

free_within : (taken : List Extent) (limit : ℕ) (extent : Extent) → IsFree taken limit extent → LiesWithin limit extent
unfolding IsFree
free_within taken limit extent free = (free.1.behind, free.1.before)

free_behind : (taken : List Extent) (limit : ℕ) (other extent : Extent) → IsFree (taken ++ other ∷ []) limit extent → IsFree taken limit extent
unfolding IsFree
free_behind taken limit other extent free = (other ∷ free.0, subst (λ (es : List Extent). IsGap es extent.bytes limit extent.place) (append_assoc taken (other ∷ []) free.0) free.1)

free_of : (taken : List Extent) (bytes limit : ℕ) (extent : Extent) → placed taken bytes limit ≡ Ok extent → IsFree taken limit extent
unfolding IsFree
free_of taken bytes limit extent e =
    let first = placed_first taken bytes limit extent e in
    ([], subst (λ (es : List Extent). IsGap es extent.bytes limit extent.place) (sym (nothing taken)) (subst (λ n. IsGap taken n limit extent.place) (sym first.1) first.0.gap))
  where
    nothing : (es : List Extent) → es ++ [] ≡ es
    nothing [] = refl
    nothing (e ∷ es) = ap (λ (xs : List Extent). e ∷ xs) (nothing es)

-- what was placed of a level that is written anew
record IsAnew (limit : ℕ) (taken : List Extent) (content : Content) (more : List Coming) (now : Placed) : Type 0 where
  extent : Extent
  place : placed taken (length (segment_bytes content)) limit ≡ Ok extent
  rest : Placed
  rest_is : placed_levels limit (taken ++ extent ∷ []) more ≡ Ok rest
  now_is : now.levels ≡ record { extent = extent; content = content } ∷ rest.levels

anew_is : (limit : ℕ) (taken : List Extent) (content : Content) (more : List Coming) (now : Placed) → placed_levels limit taken (anew content ∷ more) ≡ Ok now → IsAnew limit taken content more now
anew_is limit taken content more now e = by_place (placed taken (length (segment_bytes content)) limit) refl e
  where
    by_rest : (extent : Extent) → placed taken (length (segment_bytes content)) limit ≡ Ok extent → (r : Result Placed Full) → placed_levels limit (taken ++ extent ∷ []) more ≡ r
        → (r >>= λ rest. Ok (in_front (record { extent = extent; content = content }) rest)) ≡ Ok now → IsAnew limit taken content more now
    by_rest extent place (Ok rest) is e = record {
      extent = extent;
      place = place;
      rest = rest;
      rest_is = is;
      now_is = ap (λ (p : Placed). p.levels) (sym (ok_is (in_front (record { extent = extent; content = content }) rest) now e));
    }
    by_rest extent place (Err full) is e = absurd (err_ok now full e)

    by_place : (r : Result Extent Full) → placed taken (length (segment_bytes content)) limit ≡ r
        → (r >>= λ extent. placed_levels limit (taken ++ extent ∷ []) more >>= λ rest. Ok (in_front (record { extent = extent; content = content }) rest)) ≡ Ok now → IsAnew limit taken content more now
    by_place (Ok extent) place e = by_rest extent place (placed_levels limit (taken ++ extent ∷ []) more) refl e
    by_place (Err full) place e = absurd (err_ok now full e)

record IsStay (limit : ℕ) (taken : List Extent) (level : Level) (more : List Coming) (now : Placed) : Type 0 where
  rest : Placed
  rest_is : placed_levels limit taken more ≡ Ok rest
  now_is : now.levels ≡ level ∷ rest.levels

stay_is : (limit : ℕ) (taken : List Extent) (level : Level) (more : List Coming) (now : Placed) → placed_levels limit taken (stays level ∷ more) ≡ Ok now → IsStay limit taken level more now
stay_is limit taken level more now e = by_rest (placed_levels limit taken more) refl e
  where
    by_rest : (r : Result Placed Full) → placed_levels limit taken more ≡ r → (r >>= λ rest. Ok (in_front level rest)) ≡ Ok now → IsStay limit taken level more now
    by_rest (Ok rest) is e = record { rest = rest; rest_is = is; now_is = ap (λ (p : Placed). p.levels) (sym (ok_is (in_front level rest) now e)) }
    by_rest (Err full) is e = absurd (err_ok now full e)

-- what those that stay have, and each that is free, have all that are placed
all_placed : (P : Extent → Type 0) (limit : ℕ) (taken : List Extent) (levels : List Coming) (now : Placed) → placed_levels limit taken levels ≡ Ok now → All P (staying levels) → ((x : Extent) → IsFree taken limit x → P x)
    → All P (extents_in now.levels)
all_placed P limit taken [] now e old new = subst (λ (ls : List Level). All P (extents_in ls)) (ap (λ (p : Placed). p.levels) (ok_is (record { levels = []; taken = taken }) now e)) (All-nil P)
all_placed P limit taken (stays level ∷ more) now e old new =
    let is = stay_is limit taken level more now e in
    subst (λ (ls : List Level). All P (extents_in ls)) (sym is.now_is)
    (All-cons P level.extent (extents_in is.rest.levels) (All-head P level.extent (staying more) old) (all_placed P limit taken more is.rest is.rest_is (All-tail P level.extent (staying more) old) new))
all_placed P limit taken (anew content ∷ more) now e old new =
    let is = anew_is limit taken content more now e in
    subst (λ (ls : List Level). All P (extents_in ls)) (sym is.now_is)
    (All-cons P is.extent (extents_in is.rest.levels) (new is.extent (free_of taken (length (segment_bytes content)) limit is.extent is.place))
    (all_placed P limit (taken ++ is.extent ∷ []) more is.rest is.rest_is old (λ x free. new x (free_behind taken limit is.extent x free))))

all_middle : (P : Extent → Type 0) (xs : List Extent) (x : Extent) → All P (xs ++ x ∷ []) → P x
all_middle P xs x all = All-head P x [] (all_right P xs (x ∷ []) all)

-- levels that stay and do not meet, among what is taken, and those that are placed: no two meet
pub placed_apart : (limit : ℕ) (taken : List Extent) (levels : List Coming) (now : Placed) → placed_levels limit taken levels ≡ Ok now → AllApart (staying levels) → ((P : Extent → Type 0) → All P taken → All P (staying levels))
    → AllApart (extents_in now.levels)
placed_apart limit taken [] now e old among = subst (λ (ls : List Level). AllApart (extents_in ls)) (ap (λ (p : Placed). p.levels) (ok_is (record { levels = []; taken = taken }) now e)) tt
placed_apart limit taken (stays level ∷ more) now e old among =
    let is = stay_is limit taken level more now e in
    subst (λ (ls : List Level). AllApart (extents_in ls)) (sym is.now_is) (
      all_placed (AreApart level.extent) limit taken more is.rest is.rest_is old.0 (λ x free. swapped x level.extent (All-head (AreApart x) level.extent (staying more) (among (AreApart x) (free_clear taken limit x free)))),
      placed_apart limit taken more is.rest is.rest_is old.1 (λ P all. All-tail P level.extent (staying more) (among P all)),
    )
placed_apart limit taken (anew content ∷ more) now e old among =
    let is = anew_is limit taken content more now e in
    let free = free_of taken (length (segment_bytes content)) limit is.extent is.place in
    subst (λ (ls : List Level). AllApart (extents_in ls)) (sym is.now_is) (
      all_placed (AreApart is.extent) limit (taken ++ is.extent ∷ []) more is.rest is.rest_is (among (AreApart is.extent) (free_clear taken limit is.extent free))
          (λ x later. swapped x is.extent (all_middle (AreApart x) taken is.extent (free_clear (taken ++ is.extent ∷ []) limit x later))),
      placed_apart limit (taken ++ is.extent ∷ []) more is.rest is.rest_is old (λ P all. among P (all_left P taken (is.extent ∷ []) all)),
    )

-- and all lie between head and limit, if those that stay do
pub placed_within : (limit : ℕ) (taken : List Extent) (levels : List Coming) (now : Placed) → placed_levels limit taken levels ≡ Ok now → All (LiesWithin limit) (staying levels) → All (LiesWithin limit) (extents_in now.levels)
placed_within limit taken levels now e old = all_placed (LiesWithin limit) limit taken levels now e old (λ x free. free_within taken limit x free)

-- ---- the levels that stay are the last of those that are there

all_drop : (P : Extent → Type 0) (k : ℕ) (es : List Extent) → All P es → All P (drop k es)
all_drop P zero es all = all
all_drop P (suc k) [] all = all
all_drop P (suc k) (e ∷ es) all = all_drop P k es (All-tail P e es all)

pub apart_drop : (k : ℕ) (es : List Extent) → AllApart es → AllApart (drop k es)
apart_drop zero es apart = apart
apart_drop (suc k) [] apart = apart
apart_drop (suc k) (e ∷ es) apart = apart_drop k es apart.1

pub levels_apart : (limit k : ℕ) (list : Extent) (there : List Extent) (levels : List Coming) (now : Placed) → placed_levels limit (list ∷ there) levels ≡ Ok now → staying levels ≡ drop k there → AllApart there → AllApart (extents_in now.levels)
levels_apart limit k list there levels now e are apart =
    placed_apart limit (list ∷ there) levels now e (subst AllApart (sym are) (apart_drop k there apart)) (λ P all. subst (All P) (sym are) (all_drop P k there (All-tail P list there all)))

pub levels_within : (limit k : ℕ) (list : Extent) (there : List Extent) (levels : List Coming) (now : Placed) → placed_levels limit (list ∷ there) levels ≡ Ok now → staying levels ≡ drop k there → All (LiesWithin limit) there
    → All (LiesWithin limit) (extents_in now.levels)
levels_within limit k list there levels now e are within = placed_within limit (list ∷ there) levels now e (subst (All (LiesWithin limit)) (sym are) (all_drop (LiesWithin limit) k there within))
