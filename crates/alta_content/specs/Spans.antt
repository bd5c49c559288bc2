-- The spans of locations that deleted documents leave, and what of the lists stands outside of them.
use Rattle.std.specs.Prelude.{ℕ, ◌<◌, ◌≤◌, nat_le, nat_lt, Bool, ◌&&◌, not, List, [], ◌∷◌, length, map}
use Rattle.std.specs.List.{All, filter, list_any}
use Rattle.alta_content.specs.TermList.{TermList}
use Rattle.alta_content.specs.declared.document.DocRow.{DocRow}
use Rattle.alta_content.specs.declared.spans.Span.{Span}
use Rattle.alta_content.specs.Rows.{end_of, ends_among}

-- spans rise without meeting
abbrev pub SpansRise : List Span → Type 0
SpansRise [] = Unit {0}
SpansRise (span ∷ more) = (span.first ≤ span.last) × All (λ s. span.last < s.first) more × SpansRise more

-- the last locations of spans
abbrev pub lasts_of : List Span → List ℕ
lasts_of spans = map (λ s. s.last) spans

-- the location is one of the span's
abbrev pub span_has : ℕ → Span → Bool
span_has location span = nat_le span.first location && nat_le location span.last

-- the location is in one of the spans
abbrev pub is_within : List Span → ℕ → Bool
is_within spans location = list_any (span_has location) spans

abbrev pub span_of : DocRow → Span
span_of row = record { first = row.first; last = end_of row }

-- the spans of the rows whose end is deleted
abbrev pub deleted_spans : List ℕ → List DocRow → List Span
deleted_spans deleted rows = map span_of (filter (ends_among deleted) rows)

-- the locations outside of the spans
abbrev pub outside_of : List Span → List ℕ → List ℕ
outside_of spans locations = filter (λ x. not (is_within spans x)) locations

-- the terms that have a location outside of the spans, each with those of its locations
abbrev pub lists_outside : List Span → List TermList → List TermList
lists_outside spans lists =
    filter (λ l. nat_lt 0 (length l.locations))
    (map (λ l. record { term = l.term; locations = outside_of spans l.locations }) lists)
