-- The lines of the generated run, and of the report on it.
use Rattle.std.specs.Prelude.{ℕ, zero, suc, ◌%◌, ◌==◌, if◌then◌else◌, List, [], ◌∷◌, ◌++◌, codes, decimal}

abbrev pub parity : ℕ → List ℕ
parity i = if i % 2 == 0 then codes "even" else codes "odd"

-- the line that adds document i, with this last word
abbrev pub add_with : ℕ → List ℕ → List ℕ
add_with i word =
    codes "add d" ++ decimal i ++ codes "\titem " ++ decimal i ++ codes "\tw" ++ decimal (i % 10) ++ codes " w"
    ++ decimal (i % 100) ++ codes " " ++ word

-- the line that adds document i
abbrev pub add_line : ℕ → List ℕ
add_line i = add_with i (parity i)

-- the line that deletes document i
abbrev pub delete_line : ℕ → List ℕ
delete_line i = codes "delete d" ++ decimal i

-- what stands behind the line that adds document i: behind each hundredth a flush and a step
abbrev pub behind : ℕ → List (List ℕ)
behind i = if i % 100 == 0 then codes "flush" ∷ codes "step 50" ∷ [] else []

-- the lines that add documents 1 to n
unfoldable pub adds : ℕ → List (List ℕ)
adds zero = []
adds (suc i) = adds i ++ add_line (suc i) ∷ behind (suc i)

-- the lines that delete each fifth of them
unfoldable pub deletes : ℕ → List (List ℕ)
deletes zero = []
deletes (suc i) = deletes i ++ (if suc i % 5 == 0 then delete_line (suc i) ∷ [] else [])

-- all lines of the run
abbrev pub script : ℕ → List (List ℕ)
script n = adds n ++ (deletes n ++ codes "merge" ∷ [])

-- the lines that ask for a report
abbrev pub report : List (List ℕ)
report =
    codes "stats" ∷ codes "count even" ∷ codes "count \"w7 odd\"" ∷ codes "count w3 NOT even"
    ∷ codes "count title:item w42"
    ∷ codes "count w2 NEAR/1 even" ∷ codes "search name:d1999" ∷ []
