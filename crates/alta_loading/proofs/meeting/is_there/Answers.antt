use Rattle.std.proofs.Common.{◌≡◌, ◌<◌, ℕ, ◌||◌, true, false, length, sym, ap, subst, ◌∙◌, rules}
use Rattle.std.specs.Str.{bytes_eq}
use Rattle.alta_content.specs.Lists.{locations_of, terms_of}
use Rattle.alta_loading.specs.Met.{is_among, level_terms}
use Rattle.alta_loading.proofs.TermSets.{any_parts, located_is}
use Rattle.alta_loading.proofs.meeting.is_there.Goals as goal

pub returns-then-in_levels : goal.returns-then-in_levels
returns-then-in_levels c =
    let term = c.args.term.now in let ts = terms_of c.args.newest.now.content.lists in
    sym (any_parts level_terms (bytes_eq term) c.args.levels.now ts ∙ ap (λ b. b || is_among term ts) (sym c.in_levels.ensures ∙ c.if-in_levels.true))

pub returns : goal.returns
returns c =
    let term = c.args.term.now in let lists = c.args.newest.now.content.lists in let ts = terms_of lists in
    let same = ap length c.get.ensures.value in
    let empty : c.is_empty.result ≡ true → length (locations_of lists term) ≡ 0 = λ e. sym same ∙ (search rules) in
    let some : c.is_empty.result ≡ false → 0 < length (locations_of lists term) = λ e. subst (λ (n : ℕ). 0 < n) same (search rules) in
    located_is lists term c.is_empty.result c.requires.content.some empty some
    ∙ sym (any_parts level_terms (bytes_eq term) c.args.levels.now ts ∙ ap (λ b. b || is_among term ts) (sym c.in_levels.ensures ∙ c.if-in_levels.false))
