use Rattle.std.proofs.Common.{◌≡◌, ◌<◌, map, length, get_or, refl, subst, sym, ap, ◌∙◌, arith}
use Rattle.std.proofs.lemmas.List.{length-map}
use Rattle.alta_solver.specs.Solution.{IsLeast, IsSolution}
use Rattle.alta_docread.proofs.Leaves.{solution_counts}
use Rattle.alta_docread.proofs.Walks.{walk_settled, walk_ended}
use Rattle.alta_docread.specs.Solutions.{IsHeld, IsWalking}
use Rattle.alta_docread.proofs.found.walk.Goals as goal

pub returns-then-settle-clause-walking : goal.returns-then-settle-clause-walking
returns-then-settle-clause-walking g c =
    let f = g.R.Reader.list in let h = g.R.Reader.location in
    let raised = c.approach.ensures in let mid = c.approach.new.solver in let new = map h c.settle.new.self.readers in
    let lists = map f c.args.solver.now.readers in let bounds = c.args.solver.now.bounds in
    let first : 0 < length mid.readers = omega (arith, c.approach.ensures.some) in
    let some : 0 < length lists = omega (arith, first, length-map mid.readers f, ap length raised.lists) in
    let here : 0 < length (map h mid.readers) = omega (arith, first, length-map mid.readers h) in
    let held : IsHeld (length lists) bounds = subst (λ n. IsHeld n bounds) (sym (length-map c.args.solver.now.readers f)) c.requires.held in
    let sized : length (map h mid.readers) ≡ length lists = omega (arith, length-map mid.readers h, length-map mid.readers f, ap length raised.lists) in
    let least : IsLeast lists bounds (map h mid.readers) new =
    subst (λ b. IsLeast lists b (map h mid.readers) new) raised.system (subst (λ l. IsLeast l mid.bounds (map h mid.readers) new) raised.lists (c.if-settle.ensures.least refl)) in
    subst (λ v. IsWalking lists bounds new v) (sym c.first.ensures.value)
    (walk_settled lists bounds (map h mid.readers) new c.args.to some here c.requires.top held sized raised.reached
    (λ x s above. raised.keeps x s above (c.requires.walking.ahead x s (omega (arith, above, c.requires.above)))) least).0

pub returns-then-settle-clause-place : goal.returns-then-settle-clause-place
returns-then-settle-clause-place g c =
    let f = g.R.Reader.list in let h = g.R.Reader.location in
    let raised = c.approach.ensures in let mid = c.approach.new.solver in let new = map h c.settle.new.self.readers in
    let lists = map f c.args.solver.now.readers in let bounds = c.args.solver.now.bounds in
    let first : 0 < length mid.readers = omega (arith, c.approach.ensures.some) in
    let some : 0 < length lists = omega (arith, first, length-map mid.readers f, ap length raised.lists) in
    let here : 0 < length (map h mid.readers) = omega (arith, first, length-map mid.readers h) in
    let held : IsHeld (length lists) bounds = subst (λ n. IsHeld n bounds) (sym (length-map c.args.solver.now.readers f)) c.requires.held in
    let sized : length (map h mid.readers) ≡ length lists = omega (arith, length-map mid.readers h, length-map mid.readers f, ap length raised.lists) in
    let least : IsLeast lists bounds (map h mid.readers) new =
    subst (λ b. IsLeast lists b (map h mid.readers) new) raised.system (subst (λ l. IsLeast l mid.bounds (map h mid.readers) new) raised.lists (c.if-settle.ensures.least refl)) in
    c.first.ensures.value
    ∙ (walk_settled lists bounds (map h mid.readers) new c.args.to some here c.requires.top held sized raised.reached
    (λ x s above. raised.keeps x s above (c.requires.walking.ahead x s (omega (arith, above, c.requires.above)))) least).1

pub returns-else-settle-clause-place : goal.returns-else-settle-clause-place
returns-else-settle-clause-place g c =
    let f = g.R.Reader.list in let h = g.R.Reader.location in
    let raised = c.approach.ensures in let mid = c.approach.new.solver in let new = map h c.settle.new.self.readers in
    let lists = map f c.args.solver.now.readers in let bounds = c.args.solver.now.bounds in
    let first : 0 < length mid.readers = omega (arith, c.approach.ensures.some) in
    let some : 0 < length lists = omega (arith, first, length-map mid.readers f, ap length raised.lists) in
    let here : 0 < length (map h mid.readers) = omega (arith, first, length-map mid.readers h) in
    let held : IsHeld (length lists) bounds = subst (λ n. IsHeld n bounds) (sym (length-map c.args.solver.now.readers f)) c.requires.held in
    let sized : length (map h mid.readers) ≡ length lists = omega (arith, length-map mid.readers h, length-map mid.readers f, ap length raised.lists) in
    (walk_ended lists bounds (map h mid.readers) new c.args.to some here c.requires.top held sized raised.reached
    (λ x s above. raised.keeps x s above (c.requires.walking.ahead x s (omega (arith, above, c.requires.above))))
    (λ x s. c.if-settle.ensures.none refl x (subst (λ l. IsSolution l mid.bounds x) (sym raised.lists) (subst (λ b. IsSolution lists b x) (sym raised.system) s)))).1

pub returns-then-settle-clause-unpassed : goal.returns-then-settle-clause-unpassed
returns-then-settle-clause-unpassed g c = λ below.
    let f = g.R.Reader.list in let h = g.R.Reader.location in
    let raised = c.approach.ensures in let mid = c.approach.new.solver in let rs = c.settle.new.self.readers in
    let os = c.args.solver.now.readers in let bounds = c.args.solver.now.bounds in
    let size : length rs ≡ length os =
    omega (arith, ap length c.settle.ensures.lists, ap length raised.lists, length-map rs f, length-map mid.readers f, length-map os f) in
    let held : IsHeld (length rs) bounds = subst (λ n. IsHeld n bounds) (sym size) c.requires.held in
    let solution : IsSolution (map f rs) bounds (map h rs) =
    subst (λ b. IsSolution (map f rs) b (map h rs)) raised.system
    (subst (λ l. IsSolution l mid.bounds (map h rs)) (sym c.settle.ensures.lists) (c.if-settle.ensures.least refl).solution) in
    solution_counts f g.R.Reader.all h g.R.Reader.left rs bounds c.first.result held solution c.first.ensures.value
    (λ k d l. g.met.R.BackReader.left_is (get_or rs k d) (c.first.ensures.sound k d l))
