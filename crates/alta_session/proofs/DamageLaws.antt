-- Laws of damage that lines find, and of places that they want.
use Rattle.std.proofs.Common.{◌≡◌, ◌⊎◌, ℕ, ◌+◌, ◌≤◌, inl, inr, List, [], ◌∷◌, ◌++◌, length, length-append, drop, map, ap, sym, subst, ◌∙◌, arith, Result, Err}
use Rattle.std.proofs.lemmas.List.{drop-append-le, drop-map}
use Rattle.std.proofs.Math.Seq.{drop-append-add}
use Rattle.alta_disk.specs.Disk.{DiskState}
use Rattle.alta_machine.specs.Command.{Command, adds, deletes, searches, counts, explains, opens, fetches, closes, ranks, flushes, merges, steps, asks_stats, dumps}
use Rattle.alta_machine.specs.Lines.{Reading, asks, refuses, reading_of}
use Rattle.alta_session.specs.Answering.{CanAnswer}
use Rattle.alta_session.specs.Damage.{FindsDamage, ReadsFirst, WantsPlace}
use Rattle.alta_session.specs.Joining.{Works}
use Rattle.alta_session.specs.Keeping.{clip}
use Rattle.alta_replies.specs.Loading.{Loads}
use Rattle.alta_session.specs.Spending.{session_loads}
use Rattle.alta_machine.specs.Machine.{Searches, SearchesIn}
use Rattle.alta_session.specs.declared.session.Session.{Session}
use Rattle.alta_session.proofs.MachineLaws.{first_or, reading_clip}
use Rattle.alta_store.specs.declared.fault.StoreFault.{StoreFault}
use Rattle.alta_store.specs.declared.fault.StoreFault.TheVariants.{Damaged, Full}

-- a line searches or it does not
which_searches : (command : Command) → SearchesIn (asks command) ⊎ (SearchesIn (asks command) → ⊥)
which_searches (adds name title body) = inr (λ none. none)
which_searches (deletes name) = inr (λ none. none)
which_searches (searches text) = inl tt
which_searches (counts text) = inl tt
which_searches (explains text) = inr (λ none. none)
which_searches (opens text) = inl tt
which_searches (fetches cursor count) = inr (λ none. none)
which_searches (closes cursor) = inr (λ none. none)
which_searches (ranks count text) = inl tt
which_searches flushes = inr (λ none. none)
which_searches merges = inr (λ none. none)
which_searches (steps count) = inr (λ none. none)
which_searches asks_stats = inr (λ none. none)
which_searches dumps = inl tt

searches_or : (reading : Reading) → SearchesIn reading ⊎ (SearchesIn reading → ⊥)
searches_or (asks command) = which_searches command
searches_or (refuses fault) = inr (λ none. none)

-- a line that was not answered for damage finds it
pub line_finds : {D : Type 0} (tells : Type 0) (state : D → DiskState) (disk disk_now : D) (session : Session) (line : List ℕ) (result : Result (List ℕ) StoreFault) (place : ℕ) → CanAnswer tells (state disk) session
    → (Searches line → Loads tells (session_loads session line) (state disk) (state disk_now) result) → Works tells state disk disk_now session.store (reading_of line) result
    → ((p : ℕ) → tells → result ≡ Err (Damaged p) → (state disk_now).content ≡ (state disk).content) → tells → result ≡ Err (Damaged place) → FindsDamage (state disk_now).content (reading_of line) place
line_finds tells state disk disk_now session line result place can loads works still tell is =
    subst (λ (image : List ℕ). FindsDamage image (reading_of line) place) (sym (still place tell is)) (record {
      store = session.store;
      holds = can.agrees.content tell;
      state = can.agrees.intact.state;
      knows = can.agrees.intact.knows;
      many = length session.cursors;
      found = elim (searches_or (reading_of line)) [
        | inl search ↦ inl ((loads search).first place tell is)
        | inr other ↦ inr (works.joins other can.agrees.intact.state place can.agrees.intact.knows tell is)
      ];
    })

-- a line that was not answered for want of a place wants it
pub line_wants : {D : Type 0} (tells : Type 0) (state : D → DiskState) (disk disk_now : D) (session : Session) (line : List ℕ) (result : Result (List ℕ) StoreFault) (need gap : ℕ) → CanAnswer tells (state disk) session → Works tells state disk disk_now session.store (reading_of line) result
    → ((n g : ℕ) → tells → result ≡ Err (Full n g) → (state disk_now).content ≡ (state disk).content) → (state disk_now).limit ≡ (state disk).limit → tells → result ≡ Err (Full need gap) → WantsPlace (state disk_now).limit (state disk_now).content (reading_of line) need gap
line_wants tells state disk disk_now session line result need gap can works unwritten same_limit tell is =
    subst (λ (limit : ℕ). WantsPlace limit (state disk_now).content (reading_of line) need gap) (sym same_limit)
    (subst (λ (image : List ℕ). WantsPlace (state disk).limit image (reading_of line) need gap) (sym (unwritten need gap tell is)) (record {
      store = session.store;
      holds = can.agrees.content tell;
      state = can.agrees.intact.state;
      knows = can.agrees.intact.knows;
      lacks = works.lacks can.agrees.intact.state (can.agrees.content tell).opened need gap can.agrees.intact.knows tell (can.agrees.content tell).is is;
    }))

-- ---- the first of lines
pub first_more : (P : Reading → Type 0) (xs ys : List (List ℕ)) → ReadsFirst P xs → ReadsFirst P (xs ++ ys)
first_more P [] ys none = absurd none
first_more P (x ∷ xs) ys here = here

-- lines that are the same up to a clip read the same
pub first_same : (P : Reading → Type 0) (xs ys : List (List ℕ)) → map clip xs ≡ map clip ys → ReadsFirst P xs → ReadsFirst P ys
first_same P [] ys same none = absurd none
first_same P (x ∷ xs) [] same here = absurd cc
first_same P (x ∷ xs) (y ∷ ys) same here =
    let reads : reading_of x ≡ reading_of y = sym (reading_clip x) ∙ ap (λ (l : List (List ℕ)). reading_of (first_or [] l)) same ∙ reading_clip y in
    subst P reads here

-- those that are left when some of the texts were given, with more lines behind
pub left_more : (P : Reading → Type 0) (n : ℕ) (xs ys : List (List ℕ)) → n ≤ length xs → ReadsFirst P (drop n xs) → ReadsFirst P (drop n (xs ++ ys))
left_more P n xs ys within here = subst (ReadsFirst P) (sym (drop-append-le n xs ys within)) (first_more P (drop n xs) ys here)

-- and behind lines that were answered
pub left_on : (P : Reading → Type 0) (texts more xs ys : List (List ℕ)) → length texts ≡ length xs → ReadsFirst P (drop (length more) ys) → ReadsFirst P (drop (length (texts ++ more)) (xs ++ ys))
left_on P texts more xs ys same here =
    let long : length (texts ++ more) ≡ length xs + length more = omega (arith, length-append texts more, same) in
    subst (ReadsFirst P) (sym (ap (λ (n : ℕ). drop n (xs ++ ys)) long ∙ drop-append-add xs ys (length more))) here

pub left_same : (P : Reading → Type 0) (n : ℕ) (xs ys : List (List ℕ)) → map clip xs ≡ map clip ys → ReadsFirst P (drop n xs) → ReadsFirst P (drop n ys)
left_same P n xs ys same here = first_same P (drop n xs) (drop n ys) (sym (drop-map clip n xs) ∙ ap (λ (l : List (List ℕ)). drop n l) same ∙ drop-map clip n ys) here
