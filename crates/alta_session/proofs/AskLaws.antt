-- Laws of what a line asks for.
use Rattle.std.proofs.Common.{◌≡◌, ℕ, List, ap, sym, subst, ◌∙◌, None}
use Rattle.alta_machine.specs.Command.{adds, deletes}
use Rattle.alta_machine.specs.Lines.{asks, refuses, reading_of}
use Rattle.alta_model.specs.Seen.{command_of}
use Rattle.alta_model.specs.declared.line.Line.{Line}
use Rattle.alta_machine.specs.declared.line.LineFault.{LineFault}
use Rattle.alta_machine.specs.Machine.{Machine, step, obeyed, refusal, LooksIn, Looks, SearchesIn, Searches}
use Rattle.alta_session.specs.Tasks.{task_of}
use Rattle.alta_session.proofs.MachineLaws.{step_reads}
use Rattle.alta_session.proofs.TaskLaws.{task_reads}

pub refused_asked : (line : List ℕ) (e : LineFault) → refuses e ≡ reading_of line → (m : Machine) → task_of m line ≡ None
refused_asked line e reading m = task_reads m line (refuses e) (sym reading)

-- a command
pub step_asks : (line : List ℕ) (l k : Line) → asks (command_of l) ≡ reading_of line → l ≡ k → (m : Machine) → step m line ≡ obeyed m (command_of k)
step_asks line l k reading is m = step_reads m line (asks (command_of l)) (sym reading) ∙ ap (λ (k : Line). obeyed m (command_of k)) is

pub reading_is : (line : List ℕ) (l k : Line) → asks (command_of l) ≡ reading_of line → l ≡ k → reading_of line ≡ asks (command_of k)
reading_is line l k reading is = sym reading ∙ ap (λ (k : Line). asks (command_of k)) is

pub step_refuses : (line : List ℕ) (e fault : LineFault) → refuses e ≡ reading_of line → e ≡ fault → (m : Machine) → step m line ≡ (m, refusal fault)
step_refuses line e fault reading is m = step_reads m line (refuses e) (sym reading) ∙ ap (λ (f : LineFault). (m, refusal f)) is

-- a line that adds or deletes does not look
pub adds_more : (line name title body : List ℕ) → reading_of line ≡ asks (adds name title body) → Looks line → ⊥
adds_more line name title body is looks = subst LooksIn is looks

pub deletes_more : (line name : List ℕ) → reading_of line ≡ asks (deletes name) → Looks line → ⊥
deletes_more line name is looks = subst LooksIn is looks

-- a line that is refused searches nothing
pub refused_searched : (line : List ℕ) (e : LineFault) → refuses e ≡ reading_of line → Searches line → ⊥
refused_searched line e reading searches = subst SearchesIn (sym reading) searches
