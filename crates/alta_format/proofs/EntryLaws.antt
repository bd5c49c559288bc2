-- Laws of entries one behind the other: how a loop reads and writes them, and that their bytes are the one spelling.
use Rattle.std.proofs.Common.{◌≡◌, ℕ, zero, suc, ◌-◌, ◌+◌, ◌≤◌, ◌<◌, List, [], ◌∷◌, ◌++◌, length, get_or, drop, drop-cons, Result, Ok, Err, refl, sym, ap, subst, ◌∙◌, arith, append_assoc}
use Rattle.std.proofs.Math.Dec.{eqb-suc-zero}
use Rattle.std.proofs.lemmas.List.{append-nil, drop_all}
use Rattle.alta_format.specs.declared.field.ReadFault.{ReadFault}
use Rattle.alta_format.specs.declared.field.ReadFault.TheVariants as errors
use Rattle.alta_format.specs.Format.{◌>>=◌, read, Spells, Repeats, repeated, entries_bytes, AreEntries, state_behind}
use Rattle.alta_format.specs.Gives.{Fails}
use Rattle.alta_format.proofs.FormatLaws.{read_followed, followed_spells, spells_followed}

-- ---- reading

-- the entries that are still to come, behind those that were read
abbrev pub from_here : {S A B : Type 0} → Repeats S A B → ℕ → ℕ → S → List A → List ℕ → Result (B × List ℕ) ℕ
from_here table count i state seen rest = read (repeated table (count - i) state seen) rest

pub from_start : {S A B : Type 0} (table : Repeats S A B) (count : ℕ) (state : S) (seen : List A) (bytes : List ℕ) → seen ≡ [] → from_here table count 0 state seen bytes ≡ read (repeated table count state []) bytes
from_start table count state seen bytes none = let k : count - 0 ≡ count = omega arith in rw (k, none) refl

one_more : {S A B : Type 0} (table : Repeats S A B) (count i : ℕ) (state : S) (seen : List A) (rest : List ℕ) → i < count
    → from_here table count i state seen rest ≡ (read (table.entry state) rest >>= λ x. from_here table count (i + 1) (table.step state x.0) (seen ++ x.0 ∷ []) x.1)
unfolding repeated
one_more table count i state seen rest lt =
    let k : count - i ≡ suc (count - (i + 1)) = omega arith in
    rw k (read_followed (table.entry state) (λ x. repeated table (count - (i + 1)) (table.step state x) (seen ++ x ∷ [])) rest)

pub goes_on : {S A B : Type 0} (table : Repeats S A B) (count i : ℕ) (state : S) (seen : List A) (rest : List ℕ) (x : A) (behind : List ℕ) (total : Result (B × List ℕ) ℕ)
    → i < count → read (table.entry state) rest ≡ Ok (x, behind)
    → from_here table count i state seen rest ≡ total → from_here table count (i + 1) (table.step state x) (seen ++ x ∷ []) behind ≡ total
goes_on table count i state seen rest x behind total lt got so_far =
    sym (ap (λ f. f >>= λ y. from_here table count (i + 1) (table.step state y.0) (seen ++ y.0 ∷ []) y.1) got) ∙ sym (one_more table count i state seen rest lt) ∙ so_far

pub stops : {S A B : Type 0} (table : Repeats S A B) (e : ReadFault) (count i : ℕ) (state : S) (seen : List A) (rest : List ℕ) (total : Result (B × List ℕ) ℕ)
    → i < count → Fails e (read (table.entry state) rest) → from_here table count i state seen rest ≡ total → Fails e total
stops table errors.Memory count i state seen rest total lt h so_far = tt
stops table (errors.Broken left) count i state seen rest total lt h so_far =
    sym so_far ∙ one_more table count i state seen rest lt ∙ ap (λ f. f >>= λ y. from_here table count (i + 1) (table.step state y.0) (seen ++ y.0 ∷ []) y.1) h

pub closed : {S A B : Type 0} (table : Repeats S A B) (count i : ℕ) (state : S) (seen : List A) (rest : List ℕ) (total : Result (B × List ℕ) ℕ)
    → count ≤ i → length rest ≡ 0 → from_here table count i state seen rest ≡ total → total ≡ Ok (table.out seen state, [])
unfolding repeated read
closed table count i state seen [] total le none so_far =
    let k : count - i ≡ 0 = omega arith in
    sym so_far ∙ rw k refl
closed table count i state seen (b ∷ rest) total le none so_far = absurd (omega (arith, none))

pub left_over : {S A B : Type 0} (table : Repeats S A B) (count i : ℕ) (state : S) (seen : List A) (rest : List ℕ) (total : Result (B × List ℕ) ℕ)
    → count ≤ i → 0 < length rest → from_here table count i state seen rest ≡ total → total ≡ Err (length rest)
unfolding repeated read
left_over table count i state seen [] total le some so_far = absurd (omega (arith, some))
left_over table count i state seen (b ∷ rest) total le some so_far =
    let k : count - i ≡ 0 = omega arith in
    sym so_far ∙ rw (k, eqb-suc-zero (length rest)) refl

-- ---- what the format says is the one spelling, if that is so of one entry

pub repeated_spelled : {S A B : Type 0} (table : Repeats S A B) (one : S → A → List ℕ) (May : S → A → Type 0)
    (each : (state : S) (bytes : List ℕ) (x : A) (rest : List ℕ) → Spells (table.entry state) bytes x rest → May state x × (bytes ≡ one state x ++ rest))
    (count : ℕ) (state : S) (seen : List A) (bytes : List ℕ) (y : B) (rest : List ℕ) → Spells (repeated table count state seen) bytes y rest
    → (xs : List A) × (y ≡ table.out (seen ++ xs) (state_behind table state xs)) × (length xs ≡ count) × AreEntries table May state xs × (bytes ≡ entries_bytes table one state xs) × (rest ≡ [])
unfolding Spells repeated entries_bytes AreEntries state_behind
repeated_spelled table one May each zero state seen bytes y rest (none, (same, behind)) =
    ([], sym same ∙ ap (λ l. table.out l state) (sym (append-nil seen)), refl, tt, none, sym behind ∙ none)
repeated_spelled table one May each (suc count) state seen bytes y rest s =
    let (x, mid, first, second) = followed_spells (table.entry state) (λ x. repeated table count (table.step state x) (seen ++ x ∷ [])) bytes y rest s in
    let (may, parts) = each state bytes x mid first in
    let (xs, is, len, more, text, none) = repeated_spelled table one May each count (table.step state x) (seen ++ x ∷ []) mid y rest second in
    (x ∷ xs, is ∙ ap (λ l. table.out l (state_behind table (table.step state x) xs)) (append_assoc seen (x ∷ []) xs), ap suc len, (may, more), parts ∙ ap (λ (r : List ℕ). one state x ++ r) text, none)

pub repeated_spells : {S A B : Type 0} (table : Repeats S A B) (one : S → A → List ℕ) (May : S → A → Type 0)
    (each : (state : S) (bytes : List ℕ) (x : A) (rest : List ℕ) → May state x → bytes ≡ one state x ++ rest → Spells (table.entry state) bytes x rest)
    (state : S) (seen xs : List A) → AreEntries table May state xs
    → Spells (repeated table (length xs) state seen) (entries_bytes table one state xs) (table.out (seen ++ xs) (state_behind table state xs)) []
unfolding Spells repeated entries_bytes AreEntries state_behind
repeated_spells table one May each state seen [] keeps = (refl, (ap (λ l. table.out l state) (sym (append-nil seen)), refl))
repeated_spells table one May each state seen (x ∷ xs) (may, more) =
    let mid : List ℕ = entries_bytes table one (table.step state x) xs in
    let first = each state (one state x ++ mid) x mid may refl in
    let second = subst (λ l. Spells (repeated table (length xs) (table.step state x) (seen ++ x ∷ [])) mid (table.out l (state_behind table (table.step state x) xs)) [])
    (append_assoc seen (x ∷ []) xs) (repeated_spells table one May each (table.step state x) (seen ++ x ∷ []) xs more) in
    spells_followed (table.entry state) (λ y. repeated table (length xs) (table.step state y) (seen ++ y ∷ [])) (one state x ++ mid) x mid (table.out (seen ++ x ∷ xs) (state_behind table (table.step state x) xs)) [] first second

-- ---- writing

item_first : {A : Type 0} (xs : List A) (i : ℕ) (x : A) → i < length xs → x ≡ get_or xs i x → drop i xs ≡ x ∷ drop (i + 1) xs
item_first xs i x lt is =
    let next : suc i ≡ i + 1 = omega arith in
    drop-cons xs i x lt ∙ ap (λ y. y ∷ drop (suc i) xs) (sym is) ∙ ap (λ (k : ℕ). x ∷ drop k xs) next

pub keeps_first : {S A B : Type 0} (table : Repeats S A B) (May : S → A → Type 0) (state : S) (i : ℕ) (xs : List A) (x : A) → i < length xs → x ≡ get_or xs i x
    → AreEntries table May state (drop i xs) → May state x × AreEntries table May (table.step state x) (drop (i + 1) xs)
unfolding AreEntries
keeps_first table May state i xs x lt is keeps = subst (AreEntries table May state) (item_first xs i x lt is) keeps

pub put_more : {S A B : Type 0} (table : Repeats S A B) (one : S → A → List ℕ) (state : S) (i : ℕ) (xs : List A) (x : A) (out new total : List ℕ) → i < length xs → x ≡ get_or xs i x
    → new ≡ out ++ one state x → out ++ entries_bytes table one state (drop i xs) ≡ total
    → new ++ entries_bytes table one (table.step state x) (drop (i + 1) xs) ≡ total
unfolding entries_bytes
put_more {A = A} table one state i xs x out new total lt is put so_far =
    let behind : List ℕ = entries_bytes table one (table.step state x) (drop (i + 1) xs) in
    ap (λ (a : List ℕ). a ++ behind) put ∙ append_assoc out (one state x) behind ∙ ap (λ (l : List A). out ++ entries_bytes table one state l) (sym (item_first xs i x lt is)) ∙ so_far

pub put_all : {S A B : Type 0} (table : Repeats S A B) (one : S → A → List ℕ) (state : S) (i : ℕ) (xs : List A) (out total : List ℕ) → length xs ≤ i
    → out ++ entries_bytes table one state (drop i xs) ≡ total → out ≡ total
unfolding entries_bytes
put_all {A = A} table one state i xs out total le so_far =
    sym (append-nil out) ∙ ap (λ (l : List A). out ++ entries_bytes table one state l) (sym (drop_all i xs le)) ∙ so_far

-- ---- one entry more at the end

pub entries_bytes-push : {S A B : Type 0} (table : Repeats S A B) (one : S → A → List ℕ) (state : S) (xs : List A) (x : A)
    → entries_bytes table one state (xs ++ x ∷ []) ≡ entries_bytes table one state xs ++ one (state_behind table state xs) x
unfolding entries_bytes state_behind
entries_bytes-push table one state [] x = append-nil (one state x)
entries_bytes-push table one state (y ∷ xs) x =
    ap (λ (l : List ℕ). one state y ++ l) (entries_bytes-push table one (table.step state y) xs x)
    ∙ sym (append_assoc (one state y) (entries_bytes table one (table.step state y) xs) (one (state_behind table (table.step state y) xs) x))

pub state_behind-push : {S A B : Type 0} (table : Repeats S A B) (state : S) (xs : List A) (x : A) → state_behind table state (xs ++ x ∷ []) ≡ table.step (state_behind table state xs) x
unfolding state_behind
state_behind-push table state [] x = refl
state_behind-push table state (y ∷ xs) x = state_behind-push table (table.step state y) xs x
