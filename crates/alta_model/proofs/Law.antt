-- The steps of the reading give exactly the command that the text spells.
use Rattle.std.proofs.Common.{rules, ◌≡◌, ℕ, ◌+◌, ◌<◌, ◌^◌, suc, List, [], ◌∷◌, ◌++◌, length, take, drop, refl, ap, ap₂, sym, subst, ◌∙◌, arith, Bool, true, false, cond}
use Rattle.std.specs.Prelude.{◌||◌, nat_lt, if◌then◌else◌, codes, Option, Some, None, option_map}
use Rattle.std.specs.List.{list_all, list_any, position_or_len, before_first, after_first}
use Rattle.std.specs.Option.{option_or}
use Rattle.std.specs.Str.{bytes_eq}
use Rattle.std.specs.Char.{is_ascii_digit}
use Rattle.std.specs.Fmt.{decimal}
use Rattle.std.proofs.lemmas.Bool.{false≢true}
use Rattle.std.proofs.lemmas.Bool.Decides.{nat_tests}
use Rattle.std.proofs.lemmas.Slice.Eq.{bytes_eq-Decides}
use Rattle.alta_codec.specs.Bytes.{has_byte}
use Rattle.alta_machine.specs.Command.{Command, ReadsLine, IsCount, IsFine, spelled, is_tab, adds, deletes, searches, counts, explains, opens, fetches, closes, ranks, flushes, merges, steps, asks_stats, dumps}
use Rattle.alta_machine.specs.LineFaults.{is_space}
use Rattle.alta_machine.specs.Reading.{parted, command_in, in_parts, alone, with_rest, add_of, text_of, number_of, fetch_of, top_of, count_of, top_count_of, with_name, with_body, with_cursor, with_count, with_query}
use Rattle.alta_model.proofs.Counts.{some_inj, none_is_not, count_reads, count_spelled, top_count_reads, top_count_spelled, counted_digits, both}

lt_true : (m n : ℕ) → m < n → nat_lt m n ≡ true
lt_true m n h = grind (arith, nat_tests)

lt_suc : (m n : ℕ) → nat_lt (1 + m) (suc n) ≡ nat_lt m n
lt_suc m n = grind (arith, nat_tests)

-- cuts at the first such byte
parted_is : (p : ℕ → Bool) (text : List ℕ) (b : Bool) → nat_lt (position_or_len p text) (length text) ≡ b
    → parted p text ≡ cond {A = Option (List ℕ × List ℕ)} b (Some (before_first p text, after_first p text)) None
unfolding parted
parted_is p text b e = ap (λ b. cond {A = Option (List ℕ × List ℕ)} b (Some (before_first p text, after_first p text)) None) e

parted_here : (p : ℕ → Bool) (x : ℕ) (xs : List ℕ) → p x ≡ true → parted p (x ∷ xs) ≡ Some ([], xs)
parted_here p x xs e = parted_is p (x ∷ xs) true (rw e (lt_true 0 (suc (length xs)) (omega arith))) ∙ rw e refl

take_on : (x : ℕ) (xs : List ℕ) (n : ℕ) → take (1 + n) (x ∷ xs) ≡ x ∷ take n xs
take_on x xs n = let e : 1 + n ≡ suc n = omega arith in rw e refl

drop_on : (x : ℕ) (xs : List ℕ) (n : ℕ) → drop (1 + n + 1) (x ∷ xs) ≡ drop (n + 1) xs
drop_on x xs n = let e : 1 + n + 1 ≡ suc (n + 1) = omega arith in rw e refl

on_case : (x : ℕ) (b : Bool) (u v : List ℕ)
    → cond {A = Option (List ℕ × List ℕ)} b (Some (x ∷ u, v)) None ≡ option_map (λ q. (x ∷ q.0, q.1)) (cond {A = Option (List ℕ × List ℕ)} b (Some (u, v)) None)
on_case x true u v = refl
on_case x false u v = refl

parted_on : (p : ℕ → Bool) (x : ℕ) (xs : List ℕ) → p x ≡ false → parted p (x ∷ xs) ≡ option_map (λ q. (x ∷ q.0, q.1)) (parted p xs)
parted_on p x xs e =
    let b = nat_lt (position_or_len p xs) (length xs) in
    parted_is p (x ∷ xs) b (rw e (lt_suc (position_or_len p xs) (length xs))) ∙ rw e (ap₂ (λ u v. cond {A = Option (List ℕ × List ℕ)} b (Some (u, v)) None) (take_on x xs (position_or_len p xs)) (drop_on x xs (position_or_len p xs)))
    ∙ on_case x b (before_first p xs) (after_first p xs)
    ∙ ap (option_map (λ q. (x ∷ q.0, q.1))) (sym (parted_is p xs b refl))

neither : (a b : Bool) → (a || b) ≡ false → (a ≡ false) × (b ≡ false)
neither true b h = absurd (false≢true (sym h))
neither false b h = (refl, h)

parted_seam : (p : ℕ → Bool) (xs : List ℕ) (k : ℕ) (ys : List ℕ) → list_any p xs ≡ false → p k ≡ true → parted p (xs ++ k ∷ ys) ≡ Some (xs, ys)
parted_seam p [] k ys none stops = parted_here p k ys stops
parted_seam p (x ∷ xs) k ys none stops =
    let both = neither (p x) (list_any p xs) none in
    parted_on p x (xs ++ k ∷ ys) both.0 ∙ ap (option_map (λ q. (x ∷ q.0, q.1))) (parted_seam p xs k ys both.1 stops)

record Around (p : ℕ → Bool) (text : List ℕ) (q : List ℕ × List ℕ) : Type 0 where
  at : ℕ
  stops : p at ≡ true
  before : list_any p q.0 ≡ false
  joined : q.0 ++ at ∷ q.1 ≡ text

around_on : (p : ℕ → Bool) (x : ℕ) (xs : List ℕ) (q : List ℕ × List ℕ) (o : Option (List ℕ × List ℕ)) → p x ≡ false → parted p xs ≡ o
    → ((r : List ℕ × List ℕ) → parted p xs ≡ Some r → Around p xs r) → option_map (λ q. (x ∷ q.0, q.1)) o ≡ Some q → Around p (x ∷ xs) q
around_on p x xs q None e o ih h = absurd (none_is_not q h)
around_on p x xs q (Some r) e o ih h =
    let inner = ih r o in
    subst (Around p (x ∷ xs)) (some_inj (x ∷ r.0, r.1) q h)
    (record { at = inner.at; stops = inner.stops; before = rw e inner.before; joined = ap (λ t. x ∷ t) inner.joined })

around_case : (p : ℕ → Bool) (x : ℕ) (xs : List ℕ) (q : List ℕ × List ℕ) (b : Bool) → p x ≡ b
    → ((r : List ℕ × List ℕ) → parted p xs ≡ Some r → Around p xs r) → parted p (x ∷ xs) ≡ Some q → Around p (x ∷ xs) q
around_case p x xs q true e ih h =
    subst (Around p (x ∷ xs)) (some_inj ([], xs) q (sym (parted_here p x xs e) ∙ h)) (record { at = x; stops = e; before = refl; joined = refl })
around_case p x xs q false e ih h = around_on p x xs q (parted p xs) e refl ih (sym (parted_on p x xs e) ∙ h)

parted_parts : (p : ℕ → Bool) (text : List ℕ) (q : List ℕ × List ℕ) → parted p text ≡ Some q → Around p text q
unfolding parted
parted_parts p [] q h = absurd (none_is_not q h)
parted_parts p (x ∷ xs) q h = around_case p x xs q (p x) refl (λ r e. parted_parts p xs r e) h

space_is : (k : ℕ) → is_space k ≡ true → k ≡ 32
space_is k h = grind (arith, nat_tests)

tab_is : (k : ℕ) → is_tab k ≡ true → k ≡ 9
tab_is k h = grind (arith, nat_tests)

space_parts : (text word rest : List ℕ) → parted is_space text ≡ Some (word, rest) → word ++ 32 ∷ rest ≡ text
space_parts text word rest h =
    let parts = parted_parts is_space text (word, rest) h in
    subst (λ k. word ++ k ∷ rest ≡ text) (space_is parts.at parts.stops) parts.joined

tab_parts : (text name rest : List ℕ) → parted is_tab text ≡ Some (name, rest) → (has_byte 9 name ≡ false) × (name ++ 9 ∷ rest ≡ text)
tab_parts text name rest h =
    let parts = parted_parts is_tab text (name, rest) h in
    (parts.before, subst (λ k. name ++ k ∷ rest ≡ text) (tab_is parts.at parts.stops) parts.joined)

-- a choice by a test, from either side
choice : (b : Bool) (x y : Option Command) (c : Command) (P : Type 0) → (if b then x else y) ≡ Some c → (b ≡ true → x ≡ Some c → P) → (y ≡ Some c → P) → P
choice true x y c P h held other = held refl h
choice false x y c P h held other = other h

same_bytes : (xs ys : List ℕ) → bytes_eq xs ys ≡ true → xs ≡ ys
same_bytes xs ys h = search (rules, bytes_eq-Decides xs ys)

-- the word behind which a rest stands, and the command
Behind : List ℕ → List ℕ → Command → Type 0
Behind word rest c = ReadsLine (word ++ 32 ∷ rest) c

is_word : (word verb : List ℕ) (rest : List ℕ) (c : Command) → bytes_eq word verb ≡ true → ReadsLine (verb ++ 32 ∷ rest) c → Behind word rest c
unfolding Behind
is_word word verb rest c e h = subst (λ w. ReadsLine (w ++ 32 ∷ rest) c) (sym (same_bytes word verb e)) h

text_read : (word rest : List ℕ) (c : Command) → text_of word rest ≡ Some c → Behind word rest c
unfolding text_of
text_read word rest c h =
    choice _ _ _ c _ h (λ e s. is_word word (codes "delete") rest c e (subst (ReadsLine _) (some_inj _ c s) (record { spells = refl; fine = tt })))
    (λ h. choice _ _ _ c _ h (λ e s. is_word word (codes "search") rest c e (subst (ReadsLine _) (some_inj _ c s) (record { spells = refl; fine = tt })))
    (λ h. choice _ _ _ c _ h (λ e s. is_word word (codes "count") rest c e (subst (ReadsLine _) (some_inj _ c s) (record { spells = refl; fine = tt })))
    (λ h. choice _ _ _ c _ h (λ e s. is_word word (codes "explain") rest c e (subst (ReadsLine _) (some_inj _ c s) (record { spells = refl; fine = tt })))
    (λ h. choice _ _ _ c _ h (λ e s. is_word word (codes "open") rest c e (subst (ReadsLine _) (some_inj _ c s) (record { spells = refl; fine = tt })))
    (λ h. absurd (none_is_not c h))))))

alone_read : (word : List ℕ) (c : Command) → alone word ≡ Some c → ReadsLine word c
unfolding alone
alone_read word c h =
    choice _ _ _ c _ h (λ e s. same word (codes "flush") flushes e s (record { spells = refl; fine = tt }))
    (λ h. choice _ _ _ c _ h (λ e s. same word (codes "merge") merges e s (record { spells = refl; fine = tt }))
    (λ h. choice _ _ _ c _ h (λ e s. same word (codes "stats") asks_stats e s (record { spells = refl; fine = tt }))
    (λ h. choice _ _ _ c _ h (λ e s. same word (codes "dump") dumps e s (record { spells = refl; fine = tt }))
    (λ h. absurd (none_is_not c h)))))
  where
    same : (word verb : List ℕ) (d : Command) → bytes_eq word verb ≡ true → Some d ≡ Some c → ReadsLine verb d → ReadsLine word c
    same word verb d e s r = subst (ReadsLine word) (some_inj d c s) (subst (λ w. ReadsLine w d) (sym (same_bytes word verb e)) r)

-- a command made of a count
count_read : (verb rest : List ℕ) (make : ℕ → Command) (o : Option ℕ) (c : Command) → count_of rest ≡ o → option_map make o ≡ Some c
    → ((n : ℕ) → IsCount n → spelled (make n) ≡ verb ++ 32 ∷ decimal n) → ((n : ℕ) → IsCount n → IsFine (make n)) → ReadsLine (verb ++ 32 ∷ rest) c
count_read verb rest make None c e h spells fine = absurd (none_is_not c h)
count_read verb rest make (Some n) c e h spells fine =
    let k = count_spelled rest n e in
    subst (ReadsLine (verb ++ 32 ∷ rest)) (some_inj (make n) c h)
    (record { spells = spells n k.0 ∙ ap (λ t. verb ++ 32 ∷ t) k.1; fine = fine n k.0 })

fetch_counts : (a b : List ℕ) (o p : Option ℕ) (c : Command) → count_of a ≡ o → count_of b ≡ p → with_count o p ≡ Some c → ReadsLine (codes "fetch" ++ 32 ∷ (a ++ 32 ∷ b)) c
fetch_counts a b None p c e f h = absurd (none_is_not c h)
fetch_counts a b (Some n) None c e f h = absurd (none_is_not c h)
fetch_counts a b (Some n) (Some m) c e f h =
    let k = count_spelled a n e in
    let l = count_spelled b m f in
    subst (ReadsLine (codes "fetch" ++ 32 ∷ (a ++ 32 ∷ b))) (some_inj (fetches n m) c h)
    (record { spells = ap (λ t. codes "fetch " ++ (t ++ 32 ∷ decimal m)) k.1 ∙ ap (λ t. codes "fetch " ++ (a ++ 32 ∷ t)) l.1; fine = (k.0, l.0) })

fetch_parts : (rest : List ℕ) (o : Option (List ℕ × List ℕ)) (c : Command) → parted is_space rest ≡ o → with_cursor o ≡ Some c → ReadsLine (codes "fetch" ++ 32 ∷ rest) c
fetch_parts rest None c e h = absurd (none_is_not c h)
fetch_parts rest (Some (a, b)) c e h =
    subst (λ t. ReadsLine (codes "fetch" ++ 32 ∷ t) c) (space_parts rest a b e) (fetch_counts a b (count_of a) (count_of b) c refl refl h)

top_counted : (count query : List ℕ) (o : Option ℕ) (c : Command) → top_count_of count ≡ o → option_map (λ n. ranks n query) o ≡ Some c
    → ReadsLine (codes "top" ++ 32 ∷ (count ++ 32 ∷ query)) c
top_counted count query None c e h = absurd (none_is_not c h)
top_counted count query (Some n) c e h =
    let k = top_count_spelled count n e in
    subst (ReadsLine (codes "top" ++ 32 ∷ (count ++ 32 ∷ query))) (some_inj (ranks n query) c h)
    (record { spells = ap (λ t. codes "top " ++ (t ++ 32 ∷ query)) k.1; fine = k.0 })

top_parts : (rest : List ℕ) (o : Option (List ℕ × List ℕ)) (c : Command) → parted is_space rest ≡ o → with_query o ≡ Some c → ReadsLine (codes "top" ++ 32 ∷ rest) c
top_parts rest None c e h = absurd (none_is_not c h)
top_parts rest (Some (count, query)) c e h =
    subst (λ t. ReadsLine (codes "top" ++ 32 ∷ t) c) (space_parts rest count query e) (top_counted count query (top_count_of count) c refl h)

number_read : (word rest : List ℕ) (c : Command) → number_of word rest ≡ Some c → Behind word rest c
unfolding number_of fetch_of top_of
number_read word rest c h =
    choice _ _ _ c _ h (λ e s. is_word word (codes "fetch") rest c e (fetch_parts rest (parted is_space rest) c refl s))
    (λ h. choice _ _ _ c _ h (λ e s. is_word word (codes "close") rest c e (count_read (codes "close") rest (λ n. closes n) (count_of rest) c refl s (λ n k. refl) (λ n k. k)))
    (λ h. choice _ _ _ c _ h (λ e s. is_word word (codes "step") rest c e (count_read (codes "step") rest (λ n. steps n) (count_of rest) c refl s (λ n k. refl) (λ n k. k)))
    (λ h. choice _ _ _ c _ h (λ e s. is_word word (codes "top") rest c e (top_parts rest (parted is_space rest) c refl s))
    (λ h. absurd (none_is_not c h)))))

body_parts : (name rest : List ℕ) (o : Option (List ℕ × List ℕ)) (c : Command) → has_byte 9 name ≡ false → parted is_tab rest ≡ o → with_body name o ≡ Some c
    → ReadsLine (codes "add" ++ 32 ∷ (name ++ 9 ∷ rest)) c
body_parts name rest None c lacks e h = absurd (none_is_not c h)
body_parts name rest (Some (title, body)) c lacks e h =
    let k = tab_parts rest title body e in
    subst (ReadsLine (codes "add" ++ 32 ∷ (name ++ 9 ∷ rest))) (some_inj (adds name title body) c h)
    (record { spells = ap (λ t. codes "add " ++ (name ++ 9 ∷ t)) k.1; fine = (lacks, k.0) })

name_parts : (rest : List ℕ) (o : Option (List ℕ × List ℕ)) (c : Command) → parted is_tab rest ≡ o → with_name o ≡ Some c → ReadsLine (codes "add" ++ 32 ∷ rest) c
name_parts rest None c e h = absurd (none_is_not c h)
name_parts rest (Some (name, more)) c e h =
    let k = tab_parts rest name more e in
    subst (λ t. ReadsLine (codes "add" ++ 32 ∷ t) c) k.1 (body_parts name more (parted is_tab more) c k.0 refl h)

either_read : (word rest : List ℕ) (o : Option Command) (c : Command) → text_of word rest ≡ o → option_or o (number_of word rest) ≡ Some c → Behind word rest c
either_read word rest None c e h = number_read word rest c h
either_read word rest (Some d) c e h = text_read word rest c (e ∙ h)

rest_read : (word rest : List ℕ) (c : Command) → with_rest word rest ≡ Some c → Behind word rest c
unfolding with_rest add_of
rest_read word rest c h =
    choice _ _ _ c _ h (λ e s. is_word word (codes "add") rest c e (name_parts rest (parted is_tab rest) c refl s))
    (λ h. either_read word rest (text_of word rest) c refl h)

parts_read : (text : List ℕ) (o : Option (List ℕ × List ℕ)) (c : Command) → parted is_space text ≡ o → in_parts text o ≡ Some c → ReadsLine text c
unfolding Behind
parts_read text None c e h = alone_read text c h
parts_read text (Some (word, rest)) c e h = subst (λ t. ReadsLine t c) (space_parts text word rest e) (rest_read word rest c h)

pub reading_reads : (text : List ℕ) (c : Command) → command_in text ≡ Some c → ReadsLine text c
unfolding command_in
reading_reads text c h = parts_read text (parted is_space text) c refl h

-- digits have no space
digit_no_space : (b : ℕ) → is_ascii_digit b ≡ true → is_space b ≡ false
digit_no_space b h = grind (arith, nat_tests)

none_spaced : (ds : List ℕ) → list_all is_ascii_digit ds ≡ true → list_any is_space ds ≡ false
none_spaced [] h = refl
none_spaced (d ∷ ds) h = let k = both (is_ascii_digit d) (list_all is_ascii_digit ds) h in rw (digit_no_space d k.0) (none_spaced ds k.1)

no_space : (n : ℕ) → n < 2 ^ 64 → list_any is_space (decimal n) ≡ false
no_space n word = none_spaced (decimal n) (counted_digits n word)

-- from the verb and the rest to the command
behind : (verb rest : List ℕ) (c : Command) → list_any is_space verb ≡ false → with_rest verb rest ≡ Some c → command_in (verb ++ 32 ∷ rest) ≡ Some c
unfolding command_in
behind verb rest c lacks h = ap (in_parts (verb ++ 32 ∷ rest)) (parted_seam is_space verb 32 rest lacks refl) ∙ h

spelled_reads : (c : Command) → IsFine c → command_in (spelled c) ≡ Some c
unfolding with_rest add_of text_of number_of fetch_of top_of alone command_in parted
spelled_reads (adds name title body) fine =
    behind (codes "add") (name ++ 9 ∷ (title ++ 9 ∷ body)) (adds name title body) refl
    (ap with_name (parted_seam is_tab name 9 (title ++ 9 ∷ body) fine.0 refl) ∙ ap (with_body name) (parted_seam is_tab title 9 body fine.1 refl))
spelled_reads (deletes name) fine = behind (codes "delete") name (deletes name) refl refl
spelled_reads (searches query) fine = behind (codes "search") query (searches query) refl refl
spelled_reads (counts query) fine = behind (codes "count") query (counts query) refl refl
spelled_reads (explains query) fine = behind (codes "explain") query (explains query) refl refl
spelled_reads (opens query) fine = behind (codes "open") query (opens query) refl refl
spelled_reads (fetches cursor count) fine =
    behind (codes "fetch") (decimal cursor ++ 32 ∷ decimal count) (fetches cursor count) refl
    (ap with_cursor (parted_seam is_space (decimal cursor) 32 (decimal count) (no_space cursor (omega (arith, fine.0))) refl)
    ∙ ap₂ with_count (count_reads cursor fine.0) (count_reads count fine.1))
spelled_reads (closes cursor) fine = behind (codes "close") (decimal cursor) (closes cursor) refl (ap (option_map (λ n. closes n)) (count_reads cursor fine))
spelled_reads (ranks count query) fine =
    behind (codes "top") (decimal count ++ 32 ∷ query) (ranks count query) refl
    (ap with_query (parted_seam is_space (decimal count) 32 query (no_space count (omega (arith, fine))) refl)
    ∙ ap (option_map (λ n. ranks n query)) (top_count_reads count fine))
spelled_reads flushes fine = refl
spelled_reads merges fine = refl
spelled_reads (steps count) fine = behind (codes "step") (decimal count) (steps count) refl (ap (option_map (λ n. steps n)) (count_reads count fine))
spelled_reads asks_stats fine = refl
spelled_reads dumps fine = refl

pub reads_reading : (text : List ℕ) (c : Command) → ReadsLine text c → command_in text ≡ Some c
reads_reading text c h = subst (λ t. command_in t ≡ Some c) h.spells (spelled_reads c h.fine)
