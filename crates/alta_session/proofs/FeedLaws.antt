-- Laws of pieces that are cut into lines and answered.
use Rattle.std.proofs.Common.{◌≡◌, ℕ, ◌+◌, ◌-◌, List, [], ◌∷◌, ◌++◌, Option, length, take, drop, ap, sym, subst, ◌∙◌, arith}
use Rattle.std.proofs.lemmas.List.{take_all, take-append-drop}
use Rattle.std.proofs.Math.Seq.{take-add}
use Rattle.alta_codec.specs.Bytes.{Lacks}
use Rattle.alta_console.specs.Lines.{whole_from, begun_from}
use Rattle.alta_console.specs.declared.event.Event.{Event}
use Rattle.alta_console.proofs.GivingLaws.{end_from}
use Rattle.alta_console.proofs.LineLaws.{whole_from_append, begun_from_append}
use Rattle.alta_disk.specs.Disk.{DiskState, IsLawful}
use Rattle.alta_session.specs.Fed.{Fed}
use Rattle.alta_session.specs.Keeping.{clip}
use Rattle.alta_session.specs.Progress.{StopsWithin}
use Rattle.alta_session.specs.declared.session.Session.{Session}
use Rattle.alta_session.specs.declared.status.Status.{Status}
use Rattle.alta_session.proofs.FedLaws.{fed_none, fed_clip, fed_on, stops_on, stops_clip, stops_more}
use Rattle.alta_session.proofs.KeepingLaws.{IsCutAt, clip_clip, whole_from_clip, begun_from_clip, whole_free, begun_free, whole_ended, begun_ended}

all_taken : (bytes : List ℕ) → take (length bytes) bytes ≡ bytes
all_taken bytes = take_all (length bytes) bytes (omega arith)

-- bytes without a newline go on with a line
pub fed_free : (tells : Type 0) (a : Option (List Event)) (d : DiskState) (session : Session) (p bytes : List ℕ) → IsLawful tells d → Lacks 10 bytes → Fed tells a a d d session session (whole_from p (take (length bytes) bytes))
fed_free tells a d session p bytes lawful free =
    subst (λ (l : List (List ℕ)). Fed tells a a d d session session l) (sym (ap (λ (l : List ℕ). whole_from p l) (all_taken bytes) ∙ whole_free p bytes free)) (fed_none tells a d session lawful)

pub kept_free : (p now bytes : List ℕ) → now ≡ clip (p ++ bytes) → Lacks 10 bytes → clip now ≡ clip (begun_from p (take (length bytes) bytes))
kept_free p now bytes is free = ap clip is ∙ clip_clip (p ++ bytes) ∙ ap clip (sym (ap (λ (l : List ℕ). begun_from p l) (all_taken bytes) ∙ begun_free p bytes free))

-- bytes up to a newline end it
line_is : (p bytes : List ℕ) (n : ℕ) → IsCutAt n bytes → whole_from p (take (n + 1) bytes) ≡ (p ++ take n bytes) ∷ []
line_is p bytes n cut = ap (λ (l : List ℕ). whole_from p l) cut.line ∙ whole_ended p (take n bytes) [] cut.free

pub fed_ended : (tells : Type 0) (a b : Option (List Event)) (d e : DiskState) (s0 s1 : Session) (p bytes : List ℕ) (n : ℕ) → IsCutAt n bytes → Fed tells a b d e s0 s1 ((p ++ take n bytes) ∷ []) → Fed tells a b d e s0 s1 (whole_from p (take (n + 1) bytes))
fed_ended tells a b d e s0 s1 p bytes n cut fed = subst (λ (l : List (List ℕ)). Fed tells a b d e s0 s1 l) (sym (line_is p bytes n cut)) fed

pub kept_ended : (p now bytes : List ℕ) (n : ℕ) → now ≡ [] → IsCutAt n bytes → clip now ≡ clip (begun_from p (take (n + 1) bytes))
kept_ended p now bytes n none cut = ap clip (none ∙ sym (ap (λ (l : List ℕ). begun_from p l) cut.line ∙ begun_ended p (take n bytes) [] cut.free))

pub stops_ended : (tells : Type 0) (a b : Option (List Event)) (d e : DiskState) (s0 : Session) (p bytes : List ℕ) (n : ℕ) (status : Status) → IsCutAt n bytes → StopsWithin tells a b d e s0 ((p ++ take n bytes) ∷ []) status → StopsWithin tells a b d e s0 (whole_from p bytes) status
stops_ended tells a b d e s0 p bytes n status cut stops =
    let rest : List ℕ = drop (n + 1) bytes in
    let is : whole_from p bytes ≡ (p ++ take n bytes) ∷ whole_from [] rest = ap (λ (l : List ℕ). whole_from p l) cut.all ∙ whole_ended p (take n bytes) rest cut.free in
    subst (λ (l : List (List ℕ)). StopsWithin tells a b d e s0 l status) (sym is) (stops_more tells a b d e s0 ((p ++ take n bytes) ∷ []) (whole_from [] rest) status stops)

-- a loop over a piece that stands at an index, some bytes later
part_is : (piece : List ℕ) (at n : ℕ) → take n (take (length piece - at) (drop at piece)) ≡ take n (drop at piece)
part_is piece at n = ap (λ (l : List ℕ). take n l) (end_from piece at)

pub feed_on : (tells : Type 0) (a b c : Option (List Event)) (d e f : DiskState) (s0 s1 s2 : Session) (p kept piece : List ℕ) (at n : ℕ) → Fed tells a b d e s0 s1 (whole_from p (take at piece)) → clip kept ≡ clip (begun_from p (take at piece))
    → Fed tells b c e f s1 s2 (whole_from kept (take n (take (length piece - at) (drop at piece)))) → Fed tells a c d f s0 s2 (whole_from p (take (at + n) piece))
feed_on tells a b c d e f s0 s1 s2 p kept piece at n first is later =
    let front : List ℕ = take at piece in
    let part : List ℕ = take n (drop at piece) in
    let lines : List (List ℕ) = whole_from (begun_from p front) part in
    let here : Fed tells b c e f s1 s2 (whole_from kept part) = subst (λ (l : List ℕ). Fed tells b c e f s1 s2 (whole_from kept l)) (part_is piece at n) later in
    let all : whole_from p front ++ lines ≡ whole_from p (take (at + n) piece) = sym (whole_from_append p front part) ∙ ap (λ (l : List ℕ). whole_from p l) (sym (take-add at n piece)) in
    subst (λ (l : List (List ℕ)). Fed tells a c d f s0 s2 l) all (fed_on tells a b c d e f s0 s1 s2 (whole_from p front) lines first (fed_clip tells b c e f s1 s2 (whole_from kept part) lines (whole_from_clip kept (begun_from p front) part is) here))

pub kept_on : (p kept now piece : List ℕ) (at n : ℕ) → clip kept ≡ clip (begun_from p (take at piece)) → clip now ≡ clip (begun_from kept (take n (take (length piece - at) (drop at piece)))) → clip now ≡ clip (begun_from p (take (at + n) piece))
kept_on p kept now piece at n is later =
    later ∙ ap (λ (l : List ℕ). clip (begun_from kept l)) (part_is piece at n) ∙ begun_from_clip kept (begun_from p (take at piece)) (take n (drop at piece)) is
    ∙ ap clip (sym (begun_from_append p (take at piece) (take n (drop at piece))) ∙ ap (λ (l : List ℕ). begun_from p l) (sym (take-add at n piece)))

pub feed_stops : (tells : Type 0) (a b c : Option (List Event)) (d e f : DiskState) (s0 s1 : Session) (p kept piece : List ℕ) (at : ℕ) (status : Status) → Fed tells a b d e s0 s1 (whole_from p (take at piece)) → clip kept ≡ clip (begun_from p (take at piece))
    → StopsWithin tells b c e f s1 (whole_from kept (take (length piece - at) (drop at piece))) status → StopsWithin tells a c d f s0 (whole_from p piece) status
feed_stops tells a b c d e f s0 s1 p kept piece at status first is later =
    let front : List ℕ = take at piece in
    let rest : List ℕ = drop at piece in
    let lines : List (List ℕ) = whole_from (begun_from p front) rest in
    let here : StopsWithin tells b c e f s1 (whole_from kept rest) status = subst (λ (l : List ℕ). StopsWithin tells b c e f s1 (whole_from kept l) status) (end_from piece at) later in
    let all : whole_from p front ++ lines ≡ whole_from p piece = sym (whole_from_append p front rest) ∙ ap (λ (l : List ℕ). whole_from p l) (take-append-drop at piece) in
    subst (λ (l : List (List ℕ)). StopsWithin tells a c d f s0 l status) all (stops_on tells a b c d e f s0 s1 (whole_from p front) lines status first (stops_clip tells b c e f s1 (whole_from kept rest) lines status (whole_from_clip kept (begun_from p front) rest is) here))
