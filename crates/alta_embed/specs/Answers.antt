-- What lines are answered over the bytes of an index, and why they are not.
use Rattle.std.specs.Prelude.{◌≡◌, ◌≢◌, ◌⊎◌, ◌<◌, ◌≤◌, ℕ, List, length, drop, Result, Err, IfOk, OnOk, IfErr, OnErr}
use Rattle.alta_console.specs.Lines.{lines_of}
use Rattle.alta_console.specs.Replies.{IsPrefix}
use Rattle.alta_embed.specs.Replies.{replies_to}
use Rattle.alta_embed.specs.declared.answering.TheConstants.{INDEX_LIMIT, LINES_LIMIT}
use Rattle.alta_embed.specs.declared.refusal.Refusal.{Refusal}
use Rattle.alta_embed.specs.declared.refusal.Refusal.TheVariants.{NoMemory, Damaged, NoIndex, Full, TooLong, NoRoom}
use Rattle.alta_machine.specs.declared.document.State.{State}
use Rattle.alta_meaning.specs.Broken.{IsBrokenAt}
use Rattle.alta_meaning.specs.Standing.{StandsFor}
use Rattle.alta_root.specs.Slots.{HasNoRoot}
use Rattle.alta_session.specs.Damage.{FirstFindsDamage, FirstWantsPlace}

-- The first line of a front of the input that was not answered finds damage at this place in what a copy holds then,
abbrev pub FindDamage : List ℕ → ℕ → Type 0
FindDamage lines place = (copy front : List ℕ) × IsPrefix front lines
    × ((answered : ℕ) × FirstFindsDamage copy (drop answered (lines_of front)) place)

-- or wants a place for so many bytes, where the greatest gap has that many.
abbrev pub WantPlace : List ℕ → ℕ → ℕ → Type 0
WantPlace lines need gap = (copy front : List ℕ) × IsPrefix front lines
    × ((answered : ℕ) × FirstWantsPlace INDEX_LIMIT copy (drop answered (lines_of front)) need gap)

-- The cause of a refusal. Want of memory has none in the bytes.
pub record IsCaused (index lines : List ℕ) (refusal : Refusal) : Type 0 where
  pub no_index : refusal ≡ NoIndex → HasNoRoot index
  -- at opening, or later
  pub damaged : (place : ℕ) → refusal ≡ Damaged place → IsBrokenAt index place ⊎ FindDamage lines place
  pub full : (need gap : ℕ) → refusal ≡ Full need gap → WantPlace lines need gap
  pub too_long : refusal ≡ TooLong → LINES_LIMIT < length lines
  -- the replies are there, and have so many bytes
  pub no_room : (s : State) (need : ℕ) → StandsFor s index → refusal ≡ NoRoom need → length (replies_to s lines) ≡ need

-- no refusal of an index that stands for a state
pub record IsOpened (refusal : Refusal) : Type 0 where
  pub rooted : refusal ≢ NoIndex
  pub whole : (place : ℕ) → refusal ≢ Damaged place

-- this refusal, or want of memory
abbrev pub Refuses : {T : Type 0} → Result T Refusal → Refusal → Type 0
Refuses result refusal = (result ≡ Err refusal) ⊎ (result ≡ Err NoMemory)

-- The lines were answered, and `given` of the result is what they were replied; or they were refused.
pub record Answers {T : Type 0} (index lines : List ℕ) (given : T → List ℕ) (result : Result T Refusal) : Type 0 where
  -- where the index stands for a state, the replies are those of the abstract machine
  pub replies : (s : State) → StandsFor s index → IfOk result (λ t. given t ≡ replies_to s lines)
  pub within : OnOk result (length lines ≤ LINES_LIMIT)
  -- each refusal has its cause
  pub caused : IfErr result (IsCaused index lines)
  -- and what causes one has it
  pub opened : (s : State) → StandsFor s index → IfErr result IsOpened
  pub rooted : HasNoRoot index → Refuses result NoIndex
  pub broken : (place : ℕ) → IsBrokenAt index place → Refuses result (Damaged place)

-- So many bytes were put at the front of a room, and the rest of it is as it was; or all of it is.
pub record PutsIn (room room_now : List ℕ) (result : Result ℕ Refusal) : Type 0 where
  pub within : IfOk result (λ n. n ≤ length room)
  pub rest : IfOk result (λ n. drop n room_now ≡ drop n room)
  pub kept : OnErr result (room_now ≡ room)
  pub small : (need : ℕ) → result ≡ Err (NoRoom need) → length room < need
