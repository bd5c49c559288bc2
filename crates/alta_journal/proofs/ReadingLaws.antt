-- What is written is read back, and what is read was written.
use Rattle.std.proofs.Common.{◌≡◌, ⊎_elim, ℕ, suc, ◌+◌, ◌-◌, ◌<◌, ◌≤◌, ◌^◌, ◌==◌, true, false, List, [], ◌∷◌, ◌++◌, length, get_or, take, drop, Option, Some, None, refl, sym, ◌∙◌, ap, subst, arith, append_assoc, length-append, take-append-drop}
use Rattle.std.specs.Prelude.{nat_le}
use Rattle.std.proofs.lemmas.Bool.{cases_lt, cases_eq, le-leb, lt-leb, eq-eqb, ne_eqb}
use Rattle.std.proofs.lemmas.List.{take_at, drop_at, append-nil, length-take, length-take-le, get_or-take, get_or-drop, get_or_past, nil_from_length}
use Rattle.alta_layout.specs.Wide.{eight_bytes, of_eight}
use Rattle.alta_layout.proofs.WideLaws.{eight_long, of_eight-eight, eight-of_eight}
use Rattle.alta_journal.specs.Entry.{four_bytes, measured, texts_of, payload_of, KeepsRules, IsTyped}
use Rattle.alta_journal.specs.Reading.{of_four, cut, name_in, text_in, texts_in, ◌>>=◌, add_in, delete_in, replace_in, entry_in, entry_of_body}
use Rattle.alta_journal.specs.Record.{body_of}
use Rattle.alta_journal.specs.declared.entry.Entry.{Entry}
use Rattle.alta_journal.specs.declared.entry.Entry.TheVariants.{Add, Delete, Replace}
use Rattle.alta_journal.proofs.Spelling.{four_long, body_long, of_four-four, four-of_four}

-- ---- what is written is read back

cut_append : (n : ℕ) (xs ys : List ℕ) → length xs ≡ n → cut n (xs ++ ys) ≡ Some (xs, ys)
unfolding cut
cut_append n xs ys long =
    let room : n ≤ length (xs ++ ys) = omega (arith, length-append xs ys) in
    rw (le-leb n (length (xs ++ ys)) room, take_at xs ys n long, drop_at xs ys n long) refl

pub name_back : (name rest : List ℕ) → name_in (length name ∷ (name ++ rest)) ≡ Some (name, rest)
unfolding name_in
name_back name rest = cut_append (length name) name rest refl

pub text_back : (text rest : List ℕ) → length text < 2 ^ 32 → text_in (measured text ++ rest) ≡ Some (text, rest)
unfolding text_in
text_back text rest small =
    let whole : measured text ++ rest ≡ four_bytes (length text) ++ (text ++ rest) = append_assoc (four_bytes (length text)) text rest in
    let room : 4 ≤ length (four_bytes (length text) ++ (text ++ rest)) = omega (arith, length-append (four_bytes (length text)) (text ++ rest), four_long (length text)) in
    let front : take 4 (four_bytes (length text) ++ (text ++ rest)) ≡ four_bytes (length text) = take_at (four_bytes (length text)) (text ++ rest) 4 (four_long (length text)) in
    let back : drop 4 (four_bytes (length text) ++ (text ++ rest)) ≡ text ++ rest = drop_at (four_bytes (length text)) (text ++ rest) 4 (four_long (length text)) in
    rw (whole, le-leb 4 (length (four_bytes (length text) ++ (text ++ rest))) room, front, back, of_four-four (length text) small) (cut_append (length text) text rest refl)

pub texts_back : (name title body : List ℕ) → length title < 2 ^ 32 → length body < 2 ^ 32 → texts_in (texts_of name title body) ≡ Some (name, title, body)
unfolding texts_in
texts_back name title body small_title small_body =
    let whole : texts_of name title body ≡ length name ∷ (name ++ (measured title ++ measured body)) =
    ap (λ (l : List ℕ). length name ∷ l) (append_assoc name (measured title) (measured body)) in
    let last : text_in (measured body) ≡ Some (body, []) = ap text_in (sym (append-nil (measured body))) ∙ text_back body [] small_body in
    rw (whole, name_back name (measured title ++ measured body), text_back title (measured body) small_title, last) refl

pub add_back : (name title body : List ℕ) → length title < 2 ^ 32 → length body < 2 ^ 32 → add_in (texts_of name title body) ≡ Some (Add name title body)
unfolding add_in
add_back name title body small_title small_body = rw (texts_back name title body small_title small_body) refl

pub replace_back : (number : ℕ) (name title body : List ℕ) → number < 2 ^ 64 → length title < 2 ^ 32 → length body < 2 ^ 32
    → replace_in (eight_bytes number ++ texts_of name title body) ≡ Some (Replace number name title body)
unfolding replace_in
replace_back number name title body small small_title small_body =
    rw (cut_append 8 (eight_bytes number) (texts_of name title body) (eight_long number), texts_back name title body small_title small_body, of_eight-eight number small) refl

pub delete_back : (number : ℕ) → number < 2 ^ 64 → delete_in (eight_bytes number) ≡ Some (Delete number)
unfolding delete_in
delete_back number small = rw (eight_long number, of_eight-eight number small) refl

pub entry_back : (entry : Entry) → KeepsRules entry → IsTyped entry → entry_in (payload_of entry) ≡ Some entry
unfolding entry_in
entry_back (Add name title body) keeps typed = add_back name title body (omega (arith, keeps.4)) (omega (arith, keeps.4))
entry_back (Delete number) keeps typed = delete_back number typed
entry_back (Replace number name title body) keeps typed = replace_back number name title body typed.0 (omega (arith, keeps.4)) (omega (arith, keeps.4))

pub body_back : (entry : Entry) → KeepsRules entry → IsTyped entry → entry_of_body (body_of entry) ≡ entry
unfolding entry_of_body
body_back entry keeps typed =
    let payload = payload_of entry in
    let n : length (body_of entry) - 5 ≡ length payload = omega (arith, body_long entry) in
    let back : drop 4 (body_of entry) ≡ payload ++ 0 ∷ [] =
    ap (λ (l : List ℕ). drop 4 l) (append_assoc (four_bytes (length payload)) payload (0 ∷ [])) ∙ drop_at (four_bytes (length payload)) (payload ++ 0 ∷ []) 4 (four_long (length payload)) in
    rw (n, back, take_at payload (0 ∷ []) (length payload) refl, entry_back entry keeps typed) refl

-- ---- what is read was written

-- each is a byte
abbrev pub Small : List ℕ → Type 0
Small bytes = (i : ℕ) → get_or bytes i 0 < 256

pub small_drop : (n : ℕ) (bytes : List ℕ) → Small bytes → Small (drop n bytes)
small_drop n bytes small i = rw get_or-drop (small (n + i))

pub small_take : (n : ℕ) (bytes : List ℕ) → Small bytes → Small (take n bytes)
small_take n bytes small i =
    ⊎_elim (λ below. rw (get_or-take n bytes i 0 below) (small i))
    (λ past. let none : get_or (take n bytes) i 0 ≡ 0 = get_or_past (take n bytes) i 0 (omega (arith, length-take n bytes)) in omega (arith, none)) (cases_lt i n)

pub bind_is : {A B : Type 0} (m : Option A) (f : A → Option B) (b : B) → m >>= f ≡ Some b → (x : A) × (m ≡ Some x) × (f x ≡ Some b)
bind_is None f b is = absurd (cc is)
bind_is (Some x) f b is = (x, refl, is)

cut_is : (n : ℕ) (bytes : List ℕ) (x : List ℕ × List ℕ) → cut n bytes ≡ Some x → (bytes ≡ x.0 ++ x.1) × (length x.0 ≡ n) × (x.1 ≡ drop n bytes)
unfolding cut
cut_is n bytes x is =
    ⊎_elim (λ short. let no : nat_le n (length bytes) ≡ false = lt-leb n (length bytes) short in absurd (cc (rw no at is)))
    (λ room. let yes : nat_le n (length bytes) ≡ true = le-leb n (length bytes) room in
    let pair : Some (take n bytes, drop n bytes) ≡ Some x = rw yes at is in
    let front : take n bytes ≡ x.0 = cc (pair) in
    let back : drop n bytes ≡ x.1 = cc (pair) in
    (sym (take-append-drop n bytes) ∙ ap (λ (l : List ℕ). l ++ drop n bytes) front ∙ ap (λ (l : List ℕ). x.0 ++ l) back, ap length (sym front) ∙ length-take-le n bytes room, sym back))
    (cases_lt (length bytes) n)

pub name_is : (bytes : List ℕ) (x : List ℕ × List ℕ) → name_in bytes ≡ Some x → Small bytes → (bytes ≡ length x.0 ∷ (x.0 ++ x.1)) × Small x.1
unfolding name_in
name_is [] x is small = absurd (cc is)
name_is (n ∷ bytes) x is small =
    let parts = cut_is n bytes x is in
    (ap (λ (k : ℕ). k ∷ bytes) (sym parts.1) ∙ ap (λ (l : List ℕ). length x.0 ∷ l) parts.0, subst Small (sym parts.2) (small_drop n bytes (λ i. small (suc i))))

pub text_is : (bytes : List ℕ) (x : List ℕ × List ℕ) → text_in bytes ≡ Some x → Small bytes → (bytes ≡ measured x.0 ++ x.1) × Small x.1
unfolding text_in
text_is bytes x is small =
    ⊎_elim (λ short. let no : nat_le 4 (length bytes) ≡ false = lt-leb 4 (length bytes) short in absurd (cc (rw no at is)))
    (λ room. let yes : nat_le 4 (length bytes) ≡ true = le-leb 4 (length bytes) room in
    let inner : cut (of_four (take 4 bytes)) (drop 4 bytes) ≡ Some x = rw yes at is in
    let parts = cut_is (of_four (take 4 bytes)) (drop 4 bytes) x inner in
    let front : four_bytes (length x.0) ≡ take 4 bytes = ap four_bytes parts.1 ∙ four-of_four (take 4 bytes) (length-take-le 4 bytes room) (small_take 4 bytes small) in (
      sym (take-append-drop 4 bytes) ∙ ap (λ (l : List ℕ). l ++ drop 4 bytes) (sym front) ∙ ap (λ (l : List ℕ). four_bytes (length x.0) ++ l) parts.0 ∙ sym (append_assoc (four_bytes (length x.0)) x.0 x.1),
      subst Small (sym parts.2) (small_drop (of_four (take 4 bytes)) (drop 4 bytes) (small_drop 4 bytes small)),
    ))
    (cases_lt (length bytes) 4)

pub texts_is : (bytes : List ℕ) (t : List ℕ × List ℕ × List ℕ) → texts_in bytes ≡ Some t → Small bytes → bytes ≡ texts_of t.0 t.1 t.2
unfolding texts_in
texts_is bytes t is small =
    let a = bind_is (name_in bytes) _ t is in
    let b = bind_is (text_in a.0.1) _ t a.2 in
    let c = bind_is (text_in b.0.1) _ t b.2 in
    let name = name_is bytes a.0 a.1 small in
    let title = text_is a.0.1 b.0 b.1 name.1 in
    let body = text_is b.0.1 c.0 c.1 title.1 in
    ⊎_elim
    (λ none. let yes : (length c.0.1 == 0) ≡ true = eq-eqb (length c.0.1) 0 none in
    let made : Some (a.0.0, b.0.0, c.0.0) ≡ Some t = rw yes at c.2 in
    let texts_are : (a.0.0, b.0.0, c.0.0) ≡ t = cc (made) in
    let ends : b.0.1 ≡ measured c.0.0 = body.0 ∙ ap (λ (l : List ℕ). measured c.0.0 ++ l) (nil_from_length c.0.1 none) ∙ append-nil (measured c.0.0) in
    let whole : bytes ≡ texts_of a.0.0 b.0.0 c.0.0 =
    name.0 ∙ ap (λ (l : List ℕ). length a.0.0 ∷ (a.0.0 ++ l)) (title.0 ∙ ap (λ (l : List ℕ). measured b.0.0 ++ l) ends) ∙ ap (λ (l : List ℕ). length a.0.0 ∷ l) (sym (append_assoc a.0.0 (measured b.0.0) (measured c.0.0))) in
    whole ∙ ap (λ (x : List ℕ × List ℕ × List ℕ). texts_of x.0 x.1 x.2) texts_are)
    (λ more. let no : (length c.0.1 == 0) ≡ false = ne_eqb (length c.0.1) 0 more in absurd (cc (rw no at c.2)))
    (cases_eq (length c.0.1) 0)

pub add_is : (bytes : List ℕ) (entry : Entry) → add_in bytes ≡ Some entry → Small bytes → payload_of entry ≡ 1 ∷ bytes
unfolding add_in
add_is bytes entry is small =
    let t = bind_is (texts_in bytes) _ entry is in
    let made : Some (Add t.0.0 t.0.1 t.0.2) ≡ Some entry = t.2 in
    let entry_is : Add t.0.0 t.0.1 t.0.2 ≡ entry = cc (made) in
    ap payload_of (sym entry_is) ∙ ap (λ (l : List ℕ). 1 ∷ l) (sym (texts_is bytes t.0 t.1 small))

pub replace_is : (bytes : List ℕ) (entry : Entry) → replace_in bytes ≡ Some entry → Small bytes → payload_of entry ≡ 3 ∷ bytes
unfolding replace_in
replace_is bytes entry is small =
    let n = bind_is (cut 8 bytes) _ entry is in
    let t = bind_is (texts_in n.0.1) _ entry n.2 in
    let parts = cut_is 8 bytes n.0 n.1 in
    let made : Some (Replace (of_eight n.0.0) t.0.0 t.0.1 t.0.2) ≡ Some entry = t.2 in
    let entry_is : Replace (of_eight n.0.0) t.0.0 t.0.1 t.0.2 ≡ entry = cc (made) in
    let small_first : Small n.0.0 = subst Small (parts_first bytes n.0 n.1) (small_take 8 bytes small) in
    let small_rest : Small n.0.1 = subst Small (sym parts.2) (small_drop 8 bytes small) in
    let number : eight_bytes (of_eight n.0.0) ≡ n.0.0 = eight-of_eight n.0.0 parts.1 small_first in
    ap payload_of (sym entry_is)
    ∙ ap (λ (l : List ℕ). 3 ∷ l) (ap (λ (l : List ℕ). l ++ texts_of t.0.0 t.0.1 t.0.2) number ∙ ap (λ (l : List ℕ). n.0.0 ++ l) (sym (texts_is n.0.1 t.0 t.1 small_rest)) ∙ sym parts.0)
  where
    parts_first : (all : List ℕ) (x : List ℕ × List ℕ) → cut 8 all ≡ Some x → take 8 all ≡ x.0
    parts_first all x cut_all = let parts = cut_is 8 all x cut_all in ap (λ (l : List ℕ). take 8 l) parts.0 ∙ take_at x.0 x.1 8 parts.1

pub delete_is : (bytes : List ℕ) (entry : Entry) → delete_in bytes ≡ Some entry → Small bytes → payload_of entry ≡ 2 ∷ bytes
unfolding delete_in
delete_is bytes entry is small =
    ⊎_elim
    (λ eight. let yes : (length bytes == 8) ≡ true = eq-eqb (length bytes) 8 eight in
    let made : Some (Delete (of_eight bytes)) ≡ Some entry = rw yes at is in
    let entry_is : Delete (of_eight bytes) ≡ entry = cc (made) in
    ap payload_of (sym entry_is) ∙ ap (λ (l : List ℕ). 2 ∷ l) (eight-of_eight bytes eight small))
    (λ other. let no : (length bytes == 8) ≡ false = ne_eqb (length bytes) 8 other in absurd (cc (rw no at is)))
    (cases_eq (length bytes) 8)

pub entry_is : (bytes : List ℕ) (entry : Entry) → entry_in bytes ≡ Some entry → Small bytes → payload_of entry ≡ bytes
unfolding entry_in
entry_is [] entry is small = absurd (cc is)
entry_is (kind ∷ bytes) entry is small =
    ⊎_elim
    (λ one. let yes : (kind == 1) ≡ true = eq-eqb kind 1 one in
    add_is bytes entry (rw yes at is) (λ i. small (suc i)) ∙ ap (λ (k : ℕ). k ∷ bytes) (sym one))
    (λ other. let no : (kind == 1) ≡ false = ne_eqb kind 1 other in
    ⊎_elim (λ two. let yes : (kind == 2) ≡ true = eq-eqb kind 2 two in
    delete_is bytes entry (rw (no, yes) at is) (λ i. small (suc i)) ∙ ap (λ (k : ℕ). k ∷ bytes) (sym two))
    (λ neither. let no_two : (kind == 2) ≡ false = ne_eqb kind 2 neither in
    ⊎_elim (λ three. let yes : (kind == 3) ≡ true = eq-eqb kind 3 three in
    replace_is bytes entry (rw (no, no_two, yes) at is) (λ i. small (suc i)) ∙ ap (λ (k : ℕ). k ∷ bytes) (sym three))
    (λ none. let no_three : (kind == 3) ≡ false = ne_eqb kind 3 none in absurd (cc (rw (no, no_two, no_three) at is))) (cases_eq kind 3)) (cases_eq kind 2))
    (cases_eq kind 1)
