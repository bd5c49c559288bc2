-- The moves that are left of a reader that a word leads.
use Rattle.std.proofs.Common.{◌≡◌, ℕ, ◌+◌, ◌*◌, ◌≤◌, ⊎_elim, List, [], ◌++◌, map, length, get_or, refl, sym, subst, ap, ◌∙◌, arith}
use Rattle.std.specs.Prelude.{sum_by}
use Rattle.std.specs.List.{concat}
use Rattle.std.proofs.lemmas.Bool.{cases_lt}
use Rattle.alta_codec.specs.Rising.{IsRising, first_from}
use Rattle.alta_lead.specs.Having.{ends_having}
use Rattle.alta_lead.specs.HavingLaws.{having-rises}
use Rattle.alta_lead.specs.Moves.{left_of, rest_of, MovesEach}
use Rattle.alta_lead.specs.View.{chains_of, IsSame}
use Rattle.alta_lead.specs.declared.reader.LeadReader.{LeadReader}
use Rattle.alta_search.specs.Leads.{readers_of, moves_left, IsSoundLed, led_moves, IsSought, IsLedFrom}
use Rattle.alta_search.specs.Walks.{PlanView, IsReading}
use Rattle.alta_search.specs.Ways.{way_view, IsSoundWay}
use Rattle.alta_search.specs.Words.{single_list, single_left, single_cost}
use Rattle.alta_search.specs.declared.plan_reader.Way.{Way}
use Rattle.alta_search.specs.declared.plan_reader.Way.TheVariants.{Nothing, Tree, Led}
use Rattle.alta_search.specs.declared.single_reader.SingleReader.{SingleReader}
use Rattle.alta_search.proofs.LeadReaders.{nothing_reading}
use Rattle.alta_search.proofs.Walking.{first_is}

-- a move takes its steps from what is left
pub led_onward : (old new : LeadReader SingleReader) (before after : ℕ) → IsSame single_list old new
    → MovesEach single_list single_cost (chains_of old) (2 * rest_of single_list (chains_of old) old.lead old.at) (2 * rest_of single_list (chains_of old) old.lead new.at) before after
    → after + led_moves new ≤ before + led_moves old
led_onward old new before after same moves =
    let e : led_moves new ≡ moves_left (single_list old.ends.inner) (map single_list old.words.items) (map single_list old.negated.items) old.lead new.at =
    ap (λ l. moves_left l (map single_list new.words.items) (map single_list new.negated.items) new.lead new.at) same.ends
    ∙ ap (λ ws. moves_left (single_list old.ends.inner) ws (map single_list new.negated.items) new.lead new.at) same.words
    ∙ ap (λ ns. moves_left (single_list old.ends.inner) (map single_list old.words.items) ns new.lead new.at) same.negated
    ∙ ap (λ i. moves_left (single_list old.ends.inner) (map single_list old.words.items) (map single_list old.negated.items) i new.at) same.lead in
    subst (λ m. after + m ≤ before + led_moves old) (sym e) (moves (λ _. 1) (λ r. omega arith))

at_most : (a b c : ℕ) → a ≤ b → b ≤ c → a ≤ c
at_most a b c h k = omega arith

-- the list of such a reader rises, and it stands in it
pub led_reading : (r : LeadReader SingleReader) → IsSoundLed r → IsReading (way_view (Led r))
led_reading r s = record {
  rising = having-rises (single_list r.ends.inner) (map single_list r.words.items) (map single_list r.negated.items) s.rising;
  stands = s.stands;
}

-- so it is whichever way a reader goes
pub way_reading : (w : Way) → IsSoundWay w → IsReading (way_view w)
way_reading Nothing s = nothing_reading
way_reading (Tree d) s = record { rising = s.rising; stands = s.stands }
way_reading (Led r) s = led_reading r s

-- a reader that was made and went to a place
pub led_from : (ends : SingleReader) (words negated : List SingleReader) (lead : ℕ) (made r : LeadReader SingleReader) (from before mid after : ℕ)
    → IsSoundLed made → single_list made.ends.inner ≡ single_list ends → map single_list made.words.items ≡ map single_list words → map single_list made.negated.items ≡ map single_list negated
    → single_list made.ends.inner ++ concat (map single_list made.words.items) ++ concat (map single_list made.negated.items) ≡ single_list ends ++ concat (map single_list words) ++ concat (map single_list negated)
    → made.at ≡ first_from (ends_having (single_list made.ends.inner) (map single_list made.words.items) (map single_list made.negated.items)) 1
    → mid + left_of single_left (chains_of made) ≤ before + (single_left ends + sum_by single_left words + sum_by single_left negated)
    → made.lead ≡ lead
    → MovesEach single_list single_cost (chains_of made) (2 * length (get_or (map single_list words) lead []) + 2) (2 * rest_of single_list (chains_of made) lead made.at) before mid
    → IsSought made r from mid after
    → IsLedFrom ends words negated lead (way_view (Led r)) from before after
led_from ends words negated lead made r from before mid after sound same_ends same_words same_negated all place steps leads moves sought =
    let E = single_list made.ends.inner in let W = map single_list made.words.items in let N = map single_list made.negated.items in
    let k = 2 * length (get_or (map single_list words) lead []) + 2 in
    let rising : IsRising (ends_having E W N) = having-rises E W N sound.rising in
    let first : mid + moves_left E W N lead made.at ≤ before + k * readers_of W N = moves (λ _. 1) (λ r. omega arith) in
    let second = subst (λ ws. mid + moves_left E W N lead made.at ≤ before + k * readers_of ws N) same_words first in
    let third = subst (λ ns. mid + moves_left E W N lead made.at ≤ before + k * readers_of (map single_list words) ns) same_negated second in
    let fourth : mid + led_moves made ≤ before + k * readers_of (map single_list words) (map single_list negated) =
    subst (λ i. mid + moves_left E W N i made.at ≤ before + k * readers_of (map single_list words) (map single_list negated)) (sym leads) third in
    record {
      stands = led_reading r sought.sound;
      list = sought.list ∙ ap (λ l. ends_having l W N) same_ends ∙ ap (λ ws. ends_having (single_list ends) ws N) same_words ∙ ap (ends_having (single_list ends) (map single_list words)) same_negated;
      all = sought.all ∙ all;
      one = refl;
      steps = omega (arith, sought.steps, steps);
      place = ⊎_elim (λ lt. sought.goes lt ∙ ap (λ l. first_from l from) (sym sought.list))
          (λ ge. sought.stays ge ∙ first_is (ends_having E W N) made.at from rising place ge ∙ ap (λ l. first_from l from) (sym sought.list)) (cases_lt made.at from);
      moves = at_most (after + led_moves r) (mid + led_moves made) (before + k * readers_of (map single_list words) (map single_list negated)) sought.moves fourth;
    }

-- the same of another reader of the ends that reads as much and has as much left
pub led_same : (e d : SingleReader) (words negated : List SingleReader) (lead : ℕ) (new : PlanView) (from before after : ℕ) → single_list e ≡ single_list d → single_left e ≡ single_left d
    → IsLedFrom e words negated lead new from before after → IsLedFrom d words negated lead new from before after
led_same e d words negated lead new from before after same left is = record {
  stands = is.stands;
  list = is.list ∙ ap (λ l. ends_having l (map single_list words) (map single_list negated)) same;
  all = is.all ∙ ap (λ l. l ++ concat (map single_list words) ++ concat (map single_list negated)) same;
  one = is.one;
  steps = omega (arith, is.steps, left);
  place = is.place;
  moves = is.moves;
}
