-- A rewrite of what is held, or of what is opened, may begin.
use Rattle.std.proofs.Common.{◌≡◌, ℕ, ◌≤◌, List, length, map, take, ap, arith}
use Rattle.std.specs.Prelude.{Some}
use Rattle.alta_codec.specs.Bytes.{AreBytes}
use Rattle.alta_content.specs.declared.content.Content.{Content}
use Rattle.alta_meaning.proofs.SpacedLaws.{held_spaced}
use Rattle.alta_meaning.specs.Holding.{Holding, IsHeld, IsSpaced}
use Rattle.alta_meaning.specs.Levels.{Level}
use Rattle.alta_meaning.specs.Opened.{Opened, IsOpened}
use Rattle.alta_meaning.specs.Standing.{view_of}
use Rattle.alta_meaning.specs.Views.{View}
use Rattle.alta_meaning.specs.Work.{Job, gone, job_of, newest, newest_content, oldest_joined, whole_of}
use Rattle.alta_meaning.specs.Working.{AreJoins, IsJoin, all_contents}
use Rattle.alta_memlevel.specs.Added.{IsSpace}
use Rattle.alta_root.proofs.Frames.{counts_sound}
use Rattle.alta_rewrite.specs.Rewrites.{AgreesWith, HaveRows, MayRewrite, MayRewriteOpened, Replaces, no_content}
use Rattle.alta_rewrite.specs.declared.ends.Ends.{Ends}
use Rattle.alta_rewrite.specs.declared.levels.NextLevels.{NextLevels}
use Rattle.alta_rewrite.proofs.JoinedLaws.{all_given, oldest_given, stay_given}
use Rattle.alta_rewrite.proofs.SpaceLaws.{opened_spaced}
use Rattle.alta_content.specs.Joining.{joined_in}

module _ (held : Holding) (levels : NextLevels) (ends : Ends) (next location : ℕ) (image : List ℕ) (is : IsHeld held image) (space : IsSpace (newest held.view)) (agrees : AgreesWith held.view levels ends next location) where
  spaced : IsSpaced held.view
  spaced = held_spaced held image is space

  positive : 1 ≤ held.view.location
  positive =
      let low = (counts_sound is.opened.slot is.opened.root image is.is.counts).location.0 in
      let same : held.view.location ≡ is.opened.root.next_location = ap (λ (v : View). v.location) is.view_is in
      omega (arith, low, same)

  pub held_flush : Replaces levels 0 no_content (newest_content held.view) → MayRewrite held levels ends next location image
  held_flush replaces = record { is = is; given = stay_given held.view levels ends next location spaced positive replaces agrees }

  pub held_room : AreJoins held → Replaces levels 2 (oldest_joined held.job held.view) (newest_content held.view) → MayRewrite held levels ends next location image
  held_room joins replaces = record { is = is; given = oldest_given held.view levels ends next location 2 (oldest_joined held.job held.view) spaced positive joins.oldest replaces agrees }

  pub held_merge : AreJoins held → Replaces levels (length held.view.levels) (joined_in (all_contents held.view) (gone held.view)) no_content → MayRewrite held levels ends next location image
  held_merge joins replaces = record { is = is; given = all_given held.view levels ends next location (joined_in (all_contents held.view) (gone held.view)) spaced positive joins.all replaces agrees }

  pub held_step : (job : Job) → job_of held.job held.view ≡ Some job → AreJoins held → Replaces levels 2 (whole_of job) (newest_content held.view) → MayRewrite held levels ends next location image
  held_step job some joins replaces = record { is = is; given = oldest_given held.view levels ends next location 2 (whole_of job) spaced positive (joins.whole job some) replaces agrees }

module _ (o : Opened) (there : List Level) (levels : NextLevels) (ends : Ends) (next location : ℕ) (image : List ℕ) (is : IsOpened o image) (fits : AreBytes image) (have : HaveRows o there) (space : IsSpace (newest (view_of o there)))
    (agrees : AgreesWith (view_of o there) levels ends next location) where
  pub opened_stay : Replaces levels 0 no_content (newest_content (view_of o there)) → MayRewriteOpened o there levels ends next location image
  opened_stay replaces =
      let spaced = opened_spaced o there image is fits have space in
      record { is = is; have = have; given = stay_given (view_of o there) levels ends next location spaced.0 spaced.1 replaces agrees }

  pub opened_oldest : (n : ℕ) (c : Content) → IsJoin (view_of o there) (map (λ (l : Level). l.content) (take n there)) c → Replaces levels n c (newest_content (view_of o there)) → MayRewriteOpened o there levels ends next location image
  opened_oldest n c join replaces =
      let spaced = opened_spaced o there image is fits have space in
      record { is = is; have = have; given = oldest_given (view_of o there) levels ends next location n c spaced.0 spaced.1 join replaces agrees }

  pub opened_all : (c : Content) → IsJoin (view_of o there) (all_contents (view_of o there)) c → Replaces levels (length there) c no_content → MayRewriteOpened o there levels ends next location image
  opened_all c join replaces =
      let spaced = opened_spaced o there image is fits have space in
      record { is = is; have = have; given = all_given (view_of o there) levels ends next location c spaced.0 spaced.1 join replaces agrees }
