-- How a run of calls on a disk goes on.
use Rattle.std.proofs.Common.{◌≡◌, inl, inr, ⊎_elim, ℕ, List, sym, ◌∙◌, subst, arith}
use Rattle.alta_disk.specs.Disk.{DiskState, Same, After, Each, Only, Passes, Stands, LeavesOnly, IsLawful}

-- before the first call
pub passes_start : (tells : Type 0) (s : DiskState) (step : List ℕ → List ℕ → Type 0) → IsLawful tells s → ((c : List ℕ) → step c c) → Passes step s s
passes_start tells s step lawful stays = record {
  later = omega arith;
  now = λ c here. (c, here, stays c);
  between = λ t c le left. inl left;
  keeps = λ t c le left. left;
}

-- one run, and then another
pub passes_then : (a b c : DiskState) (first second step : List ℕ → List ℕ → Type 0) → Passes first a b → Passes second b c
    → ((z : List ℕ) → After a.images first z → After a.images step z)
    → ((z : List ℕ) → After b.images second z → After a.images step z) → Passes step a c
passes_then a b c first second step one two from_first from_second = record {
  later = omega (arith, one.later, two.later);
  now = λ z left. from_second z (two.now z left);
  between = λ t z le left.
      ⊎_elim (λ past. ⊎_elim (λ older. inl older) (λ step. inr (from_first z step)) (one.between t z le past)) (λ step. inr (from_second z step)) (two.between t z (omega (arith, le, one.later)) left);
  keeps = λ t z le left. two.keeps t z (omega (arith, le, one.later)) (one.keeps t z le left);
}

-- the same run, said of another step
pub passes_as : (a b : DiskState) (first step : List ℕ → List ℕ → Type 0) → Passes first a b → ((z : List ℕ) → After a.images first z → After a.images step z) → Passes step a b
passes_as a b first step one weaker = record {
  later = one.later;
  now = λ z left. weaker z (one.now z left);
  between = λ t z le left. ⊎_elim (λ older. inl older) (λ step. inr (weaker z step)) (one.between t z le left);
  keeps = one.keeps;
}

-- a call after which the images are among those before it
pub passes_same : (a b c : DiskState) (step : List ℕ → List ℕ → Type 0) → Passes step a b → Passes Same b c → Passes step a c
passes_same a b c step one two = passes_then a b c step Same step one two (λ z here. here) (λ z here. subst (λ y. After a.images step y) (sym here.2) (one.now here.0 here.1))

-- a further call of a run, from content that is synced
pub passes_next : (tells : Type 0) (a b c : DiskState) (second step : List ℕ → List ℕ → Type 0) → IsLawful tells a → Passes step a b → Only b.content b.images → Passes second b c
    → (tells → (z : List ℕ) → second b.content z → step a.content z) → Passes step a c
passes_next tells a b c second step lawful so_far only_b next leads = passes_then a b c step second step so_far next (λ z here. here) from_second
  where
    from_second : (z : List ℕ) → After b.images second z → After a.images step z
    from_second z (y, now, torn) =
        let first = so_far.now y now in
        let told = lawful.told first.0 first.1 in
        (a.content, lawful.present told, leads told z (subst (λ (l : List ℕ). second l z) (only_b y now) torn))

-- before the first call of a run each image at any moment is one of those now
pub leaves_start : (tells : Type 0) (s : DiskState) (P : List ℕ → Type 0) → IsLawful tells s → Each s.images P → LeavesOnly P s s
leaves_start tells s P lawful here = record {
  later = omega arith;
  each = λ c left. here c (lawful.only_now c left);
  between = λ t c le left. inl left;
  keeps = λ t c le left. left;
}

-- a run whose images have P, and then another
pub leaves_then : (a b c : DiskState) (P : List ℕ → Type 0) → LeavesOnly P a b → LeavesOnly P b c → LeavesOnly P a c
leaves_then a b c P one two = record {
  later = omega (arith, one.later, two.later);
  each = λ z left. ⊎_elim (one.each z) (λ here. here) (two.between a.clock z one.later left);
  between = λ t z le left. ⊎_elim (one.between t z le) (λ here. inr here) (two.between t z (omega (arith, le, one.later)) left);
  keeps = λ t z le left. two.keeps t z (omega (arith, le, one.later)) (one.keeps t z le left);
}

-- a run that takes each image by a step to one that has P
pub leaves_by : (tells : Type 0) (a b : DiskState) (P : List ℕ → Type 0) (step : List ℕ → List ℕ → Type 0) → IsLawful tells a → Passes step a b → Each a.images P
    → ((x z : List ℕ) → a.images x → step x z → P z) → LeavesOnly P a b
leaves_by tells a b P step lawful run here leads = record {
  later = run.later;
  each = λ c left. ⊎_elim (λ old. here c (lawful.only_now c old)) (λ after. leads after.0 c after.1 after.2) (run.between a.clock c (omega arith) left);
  between = λ t c le left. ⊎_elim (λ old. inl old) (λ after. inr (leads after.0 c after.1 after.2)) (run.between t c le left);
  keeps = run.keeps;
}

-- after a sync it is enough to know the content
pub stands_only : (tells : Type 0) (s : DiskState) (P : List ℕ → Type 0) → IsLawful tells s → Only s.content s.images → (tells → P s.content) → Stands tells s P
stands_only tells s P lawful only content = record { images = λ c here. subst P (sym (only c here)) (content (lawful.told c here)); content = content }

-- A synced disk, from which calls go on one after the other, each from the content that the one before left.
module _ (tells : Type 0) (a : DiskState) (lawful_a : IsLawful tells a) (only_a : Only a.content a.images) where
  -- the first call, told by what it does to the content
  pub passes_first : (b : DiskState) (first step : List ℕ → List ℕ → Type 0) → Passes first a b → (tells → (z : List ℕ) → first a.content z → step a.content z) → Passes step a b
  passes_first b first step one leads = passes_as a b first step one from_first
    where
      from_first : (z : List ℕ) → After a.images first z → After a.images step z
      from_first z (y, now, torn) =
          let told = lawful_a.told y now in
          (a.content, lawful_a.present told, leads told z (subst (λ (l : List ℕ). first l z) (only_a y now) torn))

  -- a call that changes nothing leaves the disk synced
  pub only_same : (b : DiskState) → Passes Same a b → (tells → b.content ≡ a.content) → Only b.content b.images
  only_same b one same = λ z here. let (d, left, is) = one.now z here in is ∙ only_a d left ∙ sym (same (lawful_a.told d left))

  -- a call from content that has P, each outcome of which has P
  pub leaves_from : (P : List ℕ → Type 0) → (tells → P a.content) → (b : DiskState) (step : List ℕ → List ℕ → Type 0) → Passes step a b
      → (tells → (z : List ℕ) → step a.content z → P z) → LeavesOnly P a b
  leaves_from P here b step run leads =
      leaves_by tells a b P step lawful_a run (λ c left. subst P (sym (only_a c left)) (here (lawful_a.told c left)))
      (λ x z left step_is. leads (lawful_a.told x left) z (subst (λ (l : List ℕ). step l z) (only_a x left) step_is))

-- a run whose images have P has images that have what follows from it
pub leaves_as : (a b : DiskState) (P Q : List ℕ → Type 0) → LeavesOnly P a b → ((c : List ℕ) → P c → Q c) → LeavesOnly Q a b
leaves_as a b P Q one weaker = record {
  later = one.later;
  each = λ c left. weaker c (one.each c left);
  between = λ t c le left. ⊎_elim (λ older. inl older) (λ here. inr (weaker c here)) (one.between t c le left);
  keeps = one.keeps;
}

-- after a run whose images have P, each image now has it
pub leaves_now : (tells : Type 0) (a b : DiskState) (P : List ℕ → Type 0) → IsLawful tells b → LeavesOnly P a b → Each b.images P
leaves_now tells a b P lawful run = λ c here. run.each c (lawful.counts_now a.clock c run.later here)

-- after a call each image has what its step makes of P
pub stands_then : (tells : Type 0) (a b : DiskState) (P Q : List ℕ → Type 0) (step : List ℕ → List ℕ → Type 0) → IsLawful tells b → Passes step a b → Stands tells a P
    → ((x z : List ℕ) → P x → step x z → Q z) → Stands tells b Q
stands_then tells a b P Q step lawful run here leads = record { images = images; content = λ told. images b.content (lawful.present told) }
  where
    images : Each b.images Q
    images z left = let (x, before, moved) = run.now z left in leads x z (here.images x before) moved
