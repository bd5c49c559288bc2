-- What a store and a disk that agree say of images.
use Rattle.std.proofs.Common.{List, ℕ, ◌≤◌, inl, inr, ⊎_elim, sym, subst, arith}
use Rattle.std.specs.Prelude.{⊤}
use Rattle.alta_catalog.proofs.MayLaws.{means_may}
use Rattle.alta_disk.specs.Disk.{DiskState, IsLawful, Each, LeavesOnly, Only, Passes}
use Rattle.alta_meaning.specs.Opened.{Opened, IsOpened}
use Rattle.alta_meaning.specs.Standing.{StandsFor}
use Rattle.alta_meaning.proofs.OneReading.{one_opened}
use Rattle.alta_machine.specs.declared.document.State.{State}
use Rattle.alta_store.specs.Agreement.{Agrees, KeepsOpened, Keeps, Knows, MaySpeakOf}
use Rattle.alta_store.specs.declared.store.Store.{Store}

-- what an image stands for is opened
abbrev pub opened_of : (s : State) (image : List ℕ) (stands : StandsFor s image) → IsOpened stands.opened image
opened_of s image stands = record { counts = stands.counts; named = stands.means.named }

-- what an image is opened as is what the store goes on with
pub kept : (store : Store) (image : List ℕ) → KeepsOpened store image → (opened : Opened) → IsOpened opened image → Keeps store opened
kept store image holds opened is = subst (Keeps store) (one_opened image holds.opened opened holds.is is) holds.keeps

-- a store that agrees with its disk knows the state that the disk stands for
pub knows_of : (tells : Type 0) (disk : DiskState) (store : Store) → Agrees tells disk store → (s : State) → tells → StandsFor s disk.content → Knows store s
knows_of tells disk store agrees s told stands =
    ((kept store disk.content (agrees.content told) stands.opened (opened_of s disk.content stands)).knows s (means_may s stands.opened disk.content stands.means)).0

-- and each of which the content of the disk may speak
pub knows_spoken : (tells : Type 0) (disk : DiskState) (store : Store) → Agrees tells disk store → (s : State) → tells → MaySpeakOf s disk.content → Knows store s
knows_spoken tells disk store agrees s told speaks = ((kept store disk.content (agrees.content told) speaks.opened speaks.is).knows s speaks.may).0

-- where nothing is pending each image has what the content has
pub images_have : (tells : Type 0) (disk : DiskState) (P : List ℕ → Type 0) → IsLawful tells disk → Only disk.content disk.images → (tells → P disk.content) → Each disk.images P
images_have tells disk P lawful only has = λ c here. subst P (sym (only c here)) (has (lawful.told c here))

-- what is shown where the disk tells
pub leaves_if : (tells : Type 0) (a b : DiskState) (P : List ℕ → Type 0) → IsLawful tells a → Passes (λ old new. ⊤) a b → (tells → LeavesOnly P a b) → LeavesOnly P a b
leaves_if tells a b P lawful passes leaves = record {
  later = passes.later;
  each = λ z since. ⊎_elim (λ before. (leaves (lawful.told z (lawful.only_now z before))).each z since) (λ came. (leaves (lawful.told came.0 came.1)).each z since) (passes.between a.clock z (omega arith) since);
  between = λ t z le since. ⊎_elim (λ before. inl before) (λ came. (leaves (lawful.told came.0 came.1)).between t z le since) (passes.between t z le since);
  keeps = passes.keeps;
}

-- where nothing is pending each image stands for the content's state
pub images_stand : (tells : Type 0) (disk : DiskState) (s : State) → IsLawful tells disk → Only disk.content disk.images → (tells → StandsFor s disk.content) → Each disk.images (StandsFor s)
images_stand tells disk s lawful only stands = images_have tells disk (StandsFor s) lawful only stands
