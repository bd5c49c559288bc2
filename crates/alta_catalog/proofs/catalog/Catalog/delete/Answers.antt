use Rattle.std.proofs.Common.{◌≡◌, ◌∙◌, ◌<◌, ◌≤◌, ℕ, List, ap, refl, subst, sym, arith}
use Rattle.alta_machine.specs.Changes.{number_of}
use Rattle.alta_names.specs.Names.{Fits}
use Rattle.alta_catalog.specs.Knowing.{numbers_in}
use Rattle.std.specs.Prelude.{◌⊎◌, ◌↔◌, Contains, None}
use Rattle.std.specs.Map.{update}
use Rattle.std.specs.Str.{bytes_eq}
use Rattle.std.proofs.lemmas.Bool.{false≢true}
use Rattle.alta_codec.specs.declared.location.TheConstants.{TOP}
use Rattle.alta_content.specs.Rows.{end_of}
use Rattle.alta_catalog.proofs.EndLaws.{still_among}
use Rattle.alta_catalog.proofs.FollowLaws.{follows_deleted}
use Rattle.alta_catalog.proofs.KnowingLaws.{counted, deleted_already, follow_on, knows_deleted, named, one_name, outside_read, row_fits, row_read, there_is}
use Rattle.alta_catalog.proofs.catalog.Catalog.delete.Goals as goal

pub returns-in_default-clause-missing : goal.returns-in_default-clause-missing
returns-in_default-clause-missing c = λ e s knows. outside_read c.args.self.now s knows c.deref.result.now c.deref.ensures.value c.args.number (c.in_default.ensures.none (follow_on c.args.self.now s knows))

pub end_of-end-requires-clause-some : goal.end_of-end-requires-clause-some
end_of-end-requires-clause-some c =
    let at = row_read c.args.self.now c.requires.0 c.requires.1 c.deref.result.now c.deref.ensures.value c.args.number c.in-Some.row.now (c.in-Some.ensures.some (follow_on c.args.self.now c.requires.0 c.requires.1)) in
    let fits = row_fits c.args.self.now c.requires.0 c.requires.1 c.args.number at.0 at.1 at.2 c.in-Some.row.now at.3 in
    omega (arith, fits.0)

pub end_of-end-requires-clause-below : goal.end_of-end-requires-clause-below
end_of-end-requires-clause-below c =
    let at = row_read c.args.self.now c.requires.0 c.requires.1 c.deref.result.now c.deref.ensures.value c.args.number c.in-Some.row.now (c.in-Some.ensures.some (follow_on c.args.self.now c.requires.0 c.requires.1)) in
    let fits = row_fits c.args.self.now c.requires.0 c.requires.1 c.args.number at.0 at.1 at.2 c.in-Some.row.now at.3 in
    fits.2

pub returns-then-holds-clause-missing : goal.returns-then-holds-clause-missing
returns-then-holds-clause-missing c = λ e s knows.
    let at = row_read c.args.self.now s knows c.deref.result.now c.deref.ensures.value c.args.number c.in-Some.row.now (c.in-Some.ensures.some (follow_on c.args.self.now s knows)) in
    deleted_already c.args.self.now s knows c.args.number at.0 at.1 at.2 c.in-Some.row.now at.3 (subst (Contains c.args.self.now.gone) c.end_of-end.ensures (c.if-holds.ensures.0 refl))

pub delete-requires-clause-positive : goal.delete-requires-clause-positive
delete-requires-clause-positive c =
    let at = row_read c.args.self.now c.requires.0 c.requires.1 c.deref.result.now c.deref.ensures.value c.args.number c.in-Some.row.now (c.in-Some.ensures.some (follow_on c.args.self.now c.requires.0 c.requires.1)) in
    let fits = row_fits c.args.self.now c.requires.0 c.requires.1 c.args.number at.0 at.1 at.2 c.in-Some.row.now at.3 in
    subst (λ (n : ℕ). 1 ≤ n) (sym c.end_of-end.ensures) fits.1

pub delete-requires-clause-below : goal.delete-requires-clause-below
delete-requires-clause-below c =
    let at = row_read c.args.self.now c.requires.0 c.requires.1 c.deref.result.now c.deref.ensures.value c.args.number c.in-Some.row.now (c.in-Some.ensures.some (follow_on c.args.self.now c.requires.0 c.requires.1)) in
    let fits = row_fits c.args.self.now c.requires.0 c.requires.1 c.args.number at.0 at.1 at.2 c.in-Some.row.now at.3 in
    subst (λ (n : ℕ). n < TOP) (sym c.end_of-end.ensures) fits.2

pub overflow_sub-self : goal.overflow_sub-self
overflow_sub-self c =
    let at = row_read c.args.self.now c.requires.0 c.requires.1 c.deref.result.now c.deref.ensures.value c.args.number c.in-Some.row.now (c.in-Some.ensures.some (follow_on c.args.self.now c.requires.0 c.requires.1)) in
    let alive : Contains c.args.self.now.gone (end_of c.in-Some.row.now) → ⊥ = λ has. false≢true (c.if-holds.ensures.1 (subst (Contains c.args.self.now.gone) (sym c.end_of-end.ensures) has)) in
    let less = counted c.args.self.now c.requires.0 c.requires.1 c.args.number at.0 at.1 at.2 c.in-Some.row.now at.3 alive in
    less.0

pub overflow_sub-self-2 : goal.overflow_sub-self-2
overflow_sub-self-2 c =
    let at = row_read c.args.self.now c.requires.0 c.requires.1 c.deref.result.now c.deref.ensures.value c.args.number c.in-Some.row.now (c.in-Some.ensures.some (follow_on c.args.self.now c.requires.0 c.requires.1)) in
    let fits = row_fits c.args.self.now c.requires.0 c.requires.1 c.args.number at.0 at.1 at.2 c.in-Some.row.now at.3 in
    fits.0

pub overflow_sub-self-3 : goal.overflow_sub-self-3
overflow_sub-self-3 c =
    let at = row_read c.args.self.now c.requires.0 c.requires.1 c.deref.result.now c.deref.ensures.value c.args.number c.in-Some.row.now (c.in-Some.ensures.some (follow_on c.args.self.now c.requires.0 c.requires.1)) in
    let alive : Contains c.args.self.now.gone (end_of c.in-Some.row.now) → ⊥ = λ has. false≢true (c.if-holds.ensures.1 (subst (Contains c.args.self.now.gone) (sym c.end_of-end.ensures) has)) in
    let less = counted c.args.self.now c.requires.0 c.requires.1 c.args.number at.0 at.1 at.2 c.in-Some.row.now at.3 alive in
    less.1

pub returns-clause-deleted : goal.returns-clause-deleted
returns-clause-deleted c = λ e s knows.
    let at = row_read c.args.self.now s knows c.deref.result.now c.deref.ensures.value c.args.number c.in-Some.row.now (c.in-Some.ensures.some (follow_on c.args.self.now s knows)) in
    let alive : Contains c.args.self.now.gone (end_of c.in-Some.row.now) → ⊥ = λ has. false≢true (c.if-holds.ensures.1 (subst (Contains c.args.self.now.gone) (sym c.end_of-end.ensures) has)) in
    let less = counted c.args.self.now s knows c.args.number at.0 at.1 at.2 c.in-Some.row.now at.3 alive in
    let is_named = named c.args.self.now s knows c.args.number at.0 at.1 at.2 c.in-Some.row.now at.3 alive in (
      there_is c.args.self.now s knows c.args.number at.0 at.1 at.2 c.in-Some.row.now at.3 alive,
      knows_deleted c.args.self.now s knows c.args.number at.0 at.1 at.2 c.in-Some.row.now at.3 alive _ refl refl refl refl refl
          (subst (λ (end : ℕ). (x : ℕ) → Contains c.delete.new.self x ↔ (Contains c.args.self.now.gone x ⊎ (x ≡ end))) c.end_of-end.ensures c.in_ok-delete.ensures.members) c.in_ok-delete.ensures.rising
          (subst (λ (bytes : List ℕ). Fits c.forget.new.self (update bytes_eq (numbers_in s) bytes None)) c.as_str.ensures
          (c.forget.ensures (numbers_in s) knows.notes.names (ap (λ (bytes : List ℕ). number_of bytes s) c.as_str.ensures ∙ is_named)
          (λ other has. one_name c.args.self.now s knows c.as_str.result.now other c.args.number (ap (λ (bytes : List ℕ). number_of bytes s) c.as_str.ensures ∙ is_named) has)))
          (omega (arith, less.0)) (omega (arith, less.1)),
    )

pub returns-clause-follows : goal.returns-clause-follows
returns-clause-follows c = λ root entries follows yes. follows_deleted c.args.self.now root entries follows _ refl refl refl refl c.args.number

pub returns-clause-still : goal.returns-clause-still
returns-clause-still c = λ row is. still_among c.args.self.now.gone _ c.end_of-end.result c.in_ok-delete.ensures.members (end_of row) is
