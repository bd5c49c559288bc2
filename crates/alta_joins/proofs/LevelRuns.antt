-- Levels that are read one after the other.
use Rattle.std.proofs.Common.{◌≡◌, ◌⊎◌, inl, inr, ℕ, suc, ◌+◌, ◌<◌, ◌≤◌, List, [], ◌∷◌, ◌++◌, length, take, drop, drop-cons, get_or, refl, sym, subst, ap, ◌∙◌, arith, take-append-drop}
use Rattle.std.proofs.lemmas.List.{append-nil, take_more}
use Rattle.alta_joins.proofs.RowSteps.{drop-all}
use Rattle.std.proofs.lemmas.List.Elements.{Contains-get_or}
use Rattle.std.proofs.lemmas.List.Sums.{sum_by_more_le, sum_by_push}
use Rattle.std.specs.Prelude.{Result, Ok, Err, IfOk, Contains}
use Rattle.std.specs.List.{sum_by}
use Rattle.alta_content.specs.declared.content.Content.{Content}
use Rattle.alta_disk.specs.Calls.{Reads}
use Rattle.alta_disk.specs.Disk.{DiskState, IsLawful}
use Rattle.alta_meaning.specs.Broken.{IsBrokenAmong, IsBrokenIn}
use Rattle.alta_joins.proofs.FaultLaws.{fault_goes}
use Rattle.alta_disk.specs.Answers.{IfDamaged, IsDamaged, IsFound}
use Rattle.alta_joins.specs.Contents.{AreContentsOf, AreSegmentsOn, IsContentOf, IsSegmentOn, data_size}
use Rattle.alta_joins.specs.Damages.{IsDamageOn, IsFirstDamage, Tells}
use Rattle.alta_disk.specs.declared.fault.LoadFault.{LoadFault}
use Rattle.alta_disk.specs.declared.fault.LoadFault.TheVariants as faults
use Rattle.alta_table.specs.Tables.{Tables}
use Rattle.alta_meaning.proofs.DiskReads.{reads_then, reads_within, reads_none}

-- ---- one level more

segments_more : (image : List ℕ) (levels : List Tables) (contents : List Content) (level : Tables) (content : Content) → AreSegmentsOn image levels contents → IsSegmentOn image level content
    → AreSegmentsOn image (levels ++ level ∷ []) (contents ++ content ∷ [])
segments_more image [] [] level content are is = (is, tt)
segments_more image [] (d ∷ ds) level content are is = absurd are
segments_more image (l ∷ ls) [] level content are is = absurd are
segments_more image (l ∷ ls) (d ∷ ds) level content (first, are) is = (first, segments_more image ls ds level content are is)

pub contents_more : (levels : List Tables) (contents : List Content) (level : Tables) (content : Content) → AreContentsOf levels contents → IsContentOf level content
    → AreContentsOf (levels ++ level ∷ []) (contents ++ content ∷ [])
contents_more [] [] level content are is = (is, tt)
contents_more [] (d ∷ ds) level content are is = absurd are
contents_more (l ∷ ls) [] level content are is = absurd are
contents_more (l ∷ ls) (d ∷ ds) level content (first, are) is = (first, contents_more ls ds level content are is)

-- contents of levels, of which one stands between others
record IsSplit (image : List ℕ) (before : List Tables) (level : Tables) (rest : List Tables) (contents : List Content) : Type 0 where
  front : List Content
  content : Content
  behind : List Content
  split : contents ≡ front ++ content ∷ behind
  fronts : AreSegmentsOn image before front
  is : IsSegmentOn image level content
  behinds : AreSegmentsOn image rest behind

split_at : (image : List ℕ) (before : List Tables) (level : Tables) (rest : List Tables) (contents : List Content) → AreSegmentsOn image (before ++ level ∷ rest) contents → IsSplit image before level rest contents
split_at image [] level rest [] are = absurd are
split_at image [] level rest (d ∷ ds) (is, are) = record { front = []; content = d; behind = ds; split = refl; fronts = tt; is = is; behinds = are }
split_at image (l ∷ ls) level rest [] are = absurd are
split_at image (l ∷ ls) level rest (d ∷ ds) (first, are) =
    let more = split_at image ls level rest ds are in
    record { front = d ∷ more.front; content = more.content; behind = more.behind; split = ap (λ (cs : List Content). d ∷ cs) more.split; fronts = (first, more.fronts); is = more.is; behinds = more.behinds }

none_behind : (image : List ℕ) (contents : List Content) → AreSegmentsOn image [] contents → contents ≡ []
none_behind image [] are = refl
none_behind image (d ∷ ds) are = absurd are

-- a damage among levels is one of those in front, or of those behind
damage_splits : (image : List ℕ) (before rest : List Tables) (p : ℕ) → IsFirstDamage image (before ++ rest) p → IsFirstDamage image before p ⊎ IsFirstDamage image rest p
damage_splits image [] rest p damage = inr damage
damage_splits image (l ∷ ls) rest p (inl here) = inl (inl here)
damage_splits image (l ∷ ls) rest p (inr (whole, damage)) = elim (damage_splits image ls rest p damage) [ inl front ↦ inl (inr (whole, front)) | inr behind ↦ inr behind ]

damage_behind : (image : List ℕ) (before rest : List Tables) (contents : List Content) (p : ℕ) → AreSegmentsOn image before contents → IsFirstDamage image rest p → IsFirstDamage image (before ++ rest) p
damage_behind image [] rest contents p are damage = damage
damage_behind image (l ∷ ls) rest [] p are damage = absurd are
damage_behind image (l ∷ ls) rest (d ∷ ds) p (is, are) damage = inr ((d, is), damage_behind image ls rest ds p are damage)

-- ---- what is told so far

pub told_none : (image : List ℕ) → Tells {X = List Content} (λ x. x) image [] (Ok [])
told_none image = record { segments = tt; only = λ contents are. sym (none_behind image contents are); first = tt; damaged = λ p damage. damage }

-- what a call tells of one level
pub record TellsOne {X : Type 0} (view : X → Content) (image : List ℕ) (level : Tables) (result : Result X LoadFault) : Type 0 where
  pub segment : IfOk result (λ x. IsSegmentOn image level (view x))
  pub only : (content : Content) → IsSegmentOn image level content → IsFound view result content
  pub first : IfDamaged result (IsDamageOn image level)
  pub damaged : (p : ℕ) → IsDamageOn image level p → IsDamaged result p

pub told_more : (image : List ℕ) (before : List Tables) (contents : List Content) (level : Tables) (content : Content) → Tells {X = List Content} (λ x. x) image before (Ok contents)
    → TellsOne {X = Content} (λ x. x) image level (Ok content) → Tells {X = List Content} (λ x. x) image (before ++ level ∷ []) (Ok (contents ++ content ∷ []))
told_more image before contents level content told one = record {
  segments = segments_more image before contents level content told.segments one.segment;
  only = λ others are.
      let s = split_at image before level [] others are in
      ap (λ (cs : List Content). cs ++ content ∷ []) (told.only s.front s.fronts)
      ∙ ap (λ (c : Content). s.front ++ c ∷ []) (one.only s.content s.is)
      ∙ ap (λ (cs : List Content). s.front ++ s.content ∷ cs) (sym (none_behind image s.behind s.behinds))
      ∙ sym s.split;
  first = tt;
  damaged = λ p damage. elim (damage_splits image before (level ∷ []) p damage) [ inl front ↦ told.damaged p front | inr behind ↦ last p behind ];
}
  where
    last : (p : ℕ) → IsFirstDamage image (level ∷ []) p → ⊥
    last p (inl here) = one.damaged p here
    last p (inr (whole, none)) = none

-- the call ends with a fault of one level, before the rest
module _ (image : List ℕ) (before : List Tables) (contents : List Content) (level : Tables) (rest : List Tables) (told : Tells {X = List Content} (λ x. x) image before (Ok contents)) where
  pub told_ended : {X : Type 0} (view : X → List Content) (e : LoadFault) → TellsOne {X = Content} (λ x. x) image level (Err e) → Tells view image (before ++ level ∷ rest) (Err e)
  told_ended view faults.Disk one = record { segments = tt; only = λ others are. tt; first = tt; damaged = λ p damage. tt }
  told_ended view faults.Memory one = record { segments = tt; only = λ others are. tt; first = tt; damaged = λ p damage. tt }
  told_ended view (faults.Damaged q) one = record {
    segments = tt;
    only = λ others are. let s = split_at image before level rest others are in one.only s.content s.is;
    first = damage_behind image before (level ∷ rest) contents q told.segments (inl one.first);
    damaged = λ p damage. elim (damage_splits image before (level ∷ rest) p damage) [ inl front ↦ absurd (told.damaged p front) | inr behind ↦ here p behind ];
  }
    where
      here : (p : ℕ) → IsFirstDamage image (level ∷ rest) p → q ≡ p
      here p (inl damage) = one.damaged p damage
      here p (inr ((c, is), damage)) = absurd (one.only c is)

-- ---- the levels that were read

-- The contents of these levels were read between two states of the disk.
pub record Run (tells : Type 0) (levels : List Tables) (contents : List Content) (old new : DiskState) : Type 0 where
  pub told : tells → Tells {X = List Content} (λ x. x) old.content levels (Ok contents)
  pub kept : AreContentsOf levels contents
  pub reads : Reads tells (sum_by data_size levels) old new

pub run_none : (tells : Type 0) (s : DiskState) → IsLawful tells s → Run tells [] [] s s
run_none tells s lawful = record { told = λ t. told_none s.content; kept = tt; reads = reads_none tells s lawful }

-- all levels were read
pub all_of : (levels : List Tables) (i : ℕ) → length levels ≤ i → take i levels ≡ levels
all_of levels i le = sym (append-nil (take i levels)) ∙ ap (λ (ls : List Tables). take i levels ++ ls) (sym (drop-all i levels le)) ∙ take-append-drop i levels

module _ (tells : Type 0) (levels : List Tables) (i : ℕ) (level : Tables) (inside : i < length levels) (is : level ≡ get_or levels i level) (contents : List Content) (old mid new : DiskState)
    (run : Run tells (take i levels) contents old mid) (reads : Reads tells (data_size level) mid new) where
  levels_on : take (i + 1) levels ≡ take i levels ++ level ∷ []
  levels_on = take_more levels i level inside ∙ ap (λ (l : Tables). take i levels ++ l ∷ []) (sym is)

  levels_split : levels ≡ take i levels ++ level ∷ drop (i + 1) levels
  levels_split =
      let next : suc i ≡ i + 1 = omega arith in
      sym (take-append-drop i levels)
      ∙ ap (λ (ls : List Tables). take i levels ++ ls) (drop-cons levels i level inside ∙ ap (λ (l : Tables). l ∷ drop (suc i) levels) (sym is) ∙ ap (λ (k : ℕ). level ∷ drop k levels) next)

  so_far : Reads tells (sum_by data_size (take i levels) + data_size level) old new
  so_far = reads_then tells (sum_by data_size (take i levels)) (data_size level) (sum_by data_size (take i levels) + data_size level) old mid new refl run.reads reads

  one_cost : sum_by data_size (take i levels) + data_size level ≤ sum_by data_size levels
  one_cost = omega (arith, sum_by_more_le data_size levels i level inside, ap data_size is)

  -- one level more
  pub run_on : (content : Content) (now : List Content) → now ≡ contents ++ content ∷ [] → (tells → TellsOne {X = Content} (λ x. x) mid.content level (Ok content)) → IsContentOf level content
      → Run tells (take (i + 1) levels) now old new
  run_on content now is_now one kept =
      subst (λ (cs : List Content). Run tells (take (i + 1) levels) cs old new) (sym is_now)
      (subst (λ (ls : List Tables). Run tells ls (contents ++ content ∷ []) old new) (sym levels_on)
      (record {
        told = λ t. told_more old.content (take i levels) contents level content (run.told t) (subst (λ (image : List ℕ). TellsOne {X = Content} (λ x. x) image level (Ok content)) (run.reads.content t) (one t));
        kept = contents_more (take i levels) contents level content run.kept kept;
        reads = subst (λ (n : ℕ). Reads tells n old new) (sym (sum_by_push data_size (take i levels) level)) so_far;
      }))

  -- the reads end here
  pub run_cost : Reads tells (sum_by data_size levels) old new
  run_cost = reads_within tells (sum_by data_size (take i levels) + data_size level) (sum_by data_size levels) old new one_cost so_far

  -- it ends with a fault of this level
  pub run_ended : {X : Type 0} (view : X → List Content) (e : LoadFault) → tells → (tells → TellsOne {X = Content} (λ x. x) mid.content level (Err e)) → Tells view old.content levels (Err e)
  run_ended view e t one =
      subst (λ (ls : List Tables). Tells view old.content ls (Err e)) (sym levels_split)
      (told_ended old.content (take i levels) contents level (drop (i + 1) levels) (run.told t) view e (subst (λ (image : List ℕ). TellsOne {X = Content} (λ x. x) image level (Err e)) (run.reads.content t) (one t)))

  pub run_broken : (X : Type 0) (e : LoadFault) → tells → (tells → IfDamaged {X = Content} (Err e) (IsBrokenIn level mid.content)) → IfDamaged {X = X} (Err e) (IsBrokenAmong levels old.content)
  run_broken X e t one =
      fault_goes Content X e (IsBrokenIn level mid.content) (IsBrokenAmong levels old.content)
      (λ p broken. record {
        level = level;
        among = subst (Contains levels) (sym is) (Contains-get_or levels i level inside);
        broken = subst (λ (image : List ℕ). IsBrokenIn level image p) (run.reads.content t) broken;
      })
      (one t)
