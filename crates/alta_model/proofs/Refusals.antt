-- Which refusal a line has.
use Rattle.std.proofs.Common.{◌≡◌, ℕ, List, refl, ap, sym, subst, ◌∙◌, arith, Bool, true, false}
use Rattle.std.specs.Prelude.{if◌then◌else◌, Option, None, Result, Ok, Err, option_map}
use Rattle.std.proofs.lemmas.Bool.{false≢true}
use Rattle.alta_machine.specs.Command.{Command, ReadsLine, spelled, adds, deletes, searches, counts, explains, opens, fetches, closes, ranks, flushes, merges, steps, asks_stats, dumps}
use Rattle.alta_machine.specs.LineFaults.{IsText, IsRefused, is_verb, word_of}
use Rattle.alta_machine.specs.Reading.{command_in}
use Rattle.alta_model.specs.Seen.{command_of}
use Rattle.alta_model.specs.declared.line.Line.{Line}
use Rattle.alta_machine.specs.declared.line.LineFault.{LineFault}
use Rattle.alta_machine.specs.declared.line.LineFault.TheVariants.{TooLong, NotUtf8, Unknown, Bad}
use Rattle.alta_model.proofs.Counts.{none_is_not}
use Rattle.alta_model.proofs.Law.{reads_reading}

verb_known : (c : Command) → is_verb (word_of (spelled c)) ≡ true
unfolding is_verb
verb_known (adds name title body) = refl
verb_known (deletes name) = refl
verb_known (searches query) = refl
verb_known (counts query) = refl
verb_known (explains query) = refl
verb_known (opens query) = refl
verb_known (fetches cursor count) = refl
verb_known (closes cursor) = refl
verb_known (ranks count query) = refl
verb_known flushes = refl
verb_known merges = refl
verb_known (steps count) = refl
verb_known asks_stats = refl
verb_known dumps = refl

pub known : (line : List ℕ) (c : Command) → ReadsLine line c → is_verb (word_of line) ≡ true
known line c reads = subst (λ t. is_verb (word_of t) ≡ true) reads.spells (verb_known c)

is_given : Result Line LineFault → Bool
is_given (Ok l) = true
is_given (Err f) = false

fault_in : LineFault → Result Line LineFault → LineFault
fault_in d (Ok l) = d
fault_in d (Err f) = f

pub not_refused : (line : List ℕ) (c : Command) → IsText line → ReadsLine line c → (fault : LineFault) → ¬ (IsRefused line fault)
not_refused line c text reads TooLong h = omega (arith, h, text.0)
not_refused line c text reads NotUtf8 h = h.1 text.1
not_refused line c text reads Unknown h = false≢true (sym h.1 ∙ known line c reads)
not_refused line c text reads Bad h = h.2 c reads

pub given : (line : List ℕ) (l : Line) (c : Command) → IsText line → ReadsLine line c → (fault : LineFault)
    → (◌≡◌ {A = Result Line LineFault} (Ok l) (Err fault) → IsRefused line fault) × (IsRefused line fault → ◌≡◌ {A = Result Line LineFault} (Ok l) (Err fault))
unfolding is_given
given line l c text reads fault = (λ e. absurd (false≢true (sym (ap is_given e))), λ h. absurd (not_refused line c text reads fault h))

-- of a text that spells nothing
pub refusal : (line : List ℕ) (b : Bool) → IsText line → command_in line ≡ None → is_verb (word_of line) ≡ b → IsRefused line (if b then Bad else Unknown)
refusal line true text none e = (text, e, λ c reads. none_is_not c (sym none ∙ reads_reading line c reads))
refusal line false text none e = (text, e)

pub only_refusal : (line : List ℕ) (b : Bool) → IsText line → is_verb (word_of line) ≡ b → (fault : LineFault) → IsRefused line fault → (if b then Bad else Unknown) ≡ fault
only_refusal line b text e TooLong h = absurd (omega (arith, h, text.0))
only_refusal line b text e NotUtf8 h = absurd (h.1 text.1)
only_refusal line true text e Unknown h = absurd (false≢true (sym h.1 ∙ e))
only_refusal line false text e Unknown h = refl
only_refusal line true text e Bad h = refl
only_refusal line false text e Bad h = absurd (false≢true (sym e ∙ h.1))

pub refused : (line : List ℕ) (f : LineFault) → IsText line → command_in line ≡ None → f ≡ (if is_verb (word_of line) then Bad else Unknown) → (fault : LineFault)
    → (◌≡◌ {A = Result Line LineFault} (Err f) (Err fault) → IsRefused line fault) × (IsRefused line fault → ◌≡◌ {A = Result Line LineFault} (Err f) (Err fault))
unfolding fault_in
refused line f text none e fault = (
  λ same. subst (IsRefused line) (sym e ∙ ap (fault_in f) same) (refusal line (is_verb (word_of line)) text none refl),
  λ h. ap Err (e ∙ only_refusal line (is_verb (word_of line)) text refl fault h),
)

pub nothing : (o : Option Line) (line : List ℕ) → o ≡ None → option_map command_of o ≡ command_in line → command_in line ≡ None
nothing o line e h = sym h ∙ ap (option_map command_of) e
