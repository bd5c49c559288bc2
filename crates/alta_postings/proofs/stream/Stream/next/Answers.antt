use Rattle.std.proofs.Common.{◌≡◌, ℕ, List, length, subst, sym, arith}
use Rattle.std.specs.Prelude.{None, IfSome}
use Rattle.alta_postings.specs.Deltas.{IsBehind, IsNextOf, decoded_list}
use Rattle.alta_postings.proofs.Reading.{rest_at, next_is, next_some, none_is}
use Rattle.alta_postings.proofs.stream.Stream.next.Goals as goal

pub near_location-requires : goal.near_location-requires
near_location-requires c =
    let s = c.self.inside.bytes.now in
    let (i, b) = subst (λ (v : List ℕ). (i : ℕ) × IsBehind (decoded_list v) i c.args.place c.args.last) (sym c.self.view_is) c.requires.behind in
    let r = rest_at s (decoded_list s) i c.args.place c.args.last c.self.invariant.0 b in
    record { within = omega (arith, c.self.invariant.1); low = r.low; spelled = r.none }

pub returns-then-place-self-clause-next : goal.returns-then-place-self-clause-next
returns-then-place-self-clause-next c =
    let s = c.self.inside.bytes.now in
    subst (λ (v : List ℕ). (i : ℕ) → IsBehind (decoded_list v) i c.args.place c.args.last → IsNextOf (decoded_list v) i c.args.last c.near_location.result.0 c.near_location.result.1) c.self.view_is
    (λ i b. next_is s (decoded_list s) i c.args.place c.args.last c.near_location.result.0 c.near_location.result.1 c.self.invariant.0 b c.near_location.ensures)

pub last_location-requires : goal.last_location-requires
last_location-requires c =
    let s = c.self.inside.bytes.now in
    let (i, b) = subst (λ (v : List ℕ). (i : ℕ) × IsBehind (decoded_list v) i c.args.place c.args.last) (sym c.self.view_is) c.requires.behind in
    let r = rest_at s (decoded_list s) i c.args.place c.args.last c.self.invariant.0 b in
    record { within = r.within; low = r.low; spelled = r.none }

pub returns-clause-next : goal.returns-clause-next
returns-clause-next c =
    let s = c.self.inside.bytes.now in
    subst (λ (v : List ℕ). IfSome c.last_location.result (λ r. (i : ℕ) → IsBehind (decoded_list v) i c.args.place c.args.last → IsNextOf (decoded_list v) i c.args.last r.0 r.1)) c.self.view_is
    (next_some s (decoded_list s) c.args.place c.args.last c.last_location.result c.self.invariant.0 c.last_location.ensures.read)

pub returns-clause-none : goal.returns-clause-none
returns-clause-none c =
    let s = c.self.inside.bytes.now in
    subst (λ (v : List ℕ). c.last_location.result ≡ None → (i : ℕ) → IsBehind (decoded_list v) i c.args.place c.args.last → i ≡ length (decoded_list v)) c.self.view_is
    (λ none i b. none_is s (decoded_list s) i c.args.place c.args.last c.self.invariant.0 b (c.last_location.ensures.none none))
