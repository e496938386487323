-- What a datagram does to the packets of telephone events that wait.
use Rattle.std.proofs.Common.{◌≡◌, ◌≤◌, ◌<◌, ◌∙◌, ℕ, ◌-◌, List, [], ◌∷◌, ◌++◌, take, length, length-append, Bool, true, false, Option, Some, None, ap, refl, subst, sym, arith}
use Rattle.std.proofs.Math.Seq.{take-append_seam}
use Rattle.std.proofs.lemmas.Bool.Decides.{nat_tests}
use Rattle.codec_payload_rtp.specs.RtpPackets.{Packet}
use Rattle.codec_payload_session_stream.specs.Telephone.{Gives, GivesFrom, Notes, NotesBy, Queue, QueuesIf, WaitsLast, WaitsOrDrops, has_room, settled, without_last}
use Rattle.codec_payload_session_stream.specs.declared.events.Event.{Event as EventWith}
use Rattle.codec_payload_session_stream.specs.declared.telephone.Noted.{Noted}
use Rattle.codec_payload_session_stream.specs.declared.telephone.Noted.TheVariants as noteds
use Rattle.codec_payload_session_stream.specs.declared.telephone.TelephonePacket.{TelephonePacket}

-- the last packet, which was put in, is taken out again
taken_out : (ws : List TelephonePacket) (w : TelephonePacket) → take (length (ws ++ w ∷ []) - 1) (ws ++ w ∷ []) ≡ ws
taken_out ws w =
    let one : length (ws ++ w ∷ []) - 1 ≡ length ws = omega (arith, length-append ws (w ∷ [])) in
    ap (λ (n : ℕ). take n (ws ++ w ∷ [])) one ∙ take-append_seam ws (w ∷ [])

puts_back : (p : Packet) (q r : Queue) → WaitsLast p q r → without_last r ≡ q
puts_back p q r got =
    ap (λ (x : Queue). without_last x) got.left ∙ ap (λ (ws : List TelephonePacket). record q { waiting = ws }) (taken_out q.waiting got.packet)

waits : (b taken : Bool) (p : Packet) (q : Queue) (noted : Noted) (r : Queue) → has_room q ≡ b → NotesBy b p q noted r → QueuesIf taken (Some p) q (settled noted taken r)
waits true true p q noted r room got =
    subst (λ (b : Bool). WaitsOrDrops b p q (settled noted true r)) (sym room)
    (subst (λ (n : Noted). WaitsLast p q (settled n true r)) (sym got.0) got.1)
waits true false p q noted r room got = ap (λ (n : Noted). settled n false r) got.0 ∙ puts_back p q r got.1
waits false true p q noted r room got =
    subst (λ (b : Bool). WaitsOrDrops b p q (settled noted true r)) (sym room)
    (ap (λ (n : Noted). settled n true r) got.0 ∙ ap (λ (x : Queue). settled noteds.NoPlace true x) got.1)
waits false false p q noted r room got = ap (λ (n : Noted). settled n false r) got.0 ∙ got.1

noted_by : (b : Bool) (p : Packet) (q r : Queue) → has_room q ≡ b → b ≡ true → WaitsLast p q r → NotesBy b p q noteds.Waits r
noted_by true p q r room is got = (refl, got)
noted_by false p q r room is got = absurd cc

-- a packet with a place is noted
pub waits_noted : (o : Option Packet) (p : Packet) (q r : Queue) → o ≡ Some p → length q.waiting < 32 → WaitsLast p q r → Notes o q noteds.Waits r
waits_noted o p q r is free got =
    let room : has_room q ≡ true = grind (arith, nat_tests) in
    subst (λ (x : Option Packet). Notes x q noteds.Waits r) (sym is) (noted_by (has_room q) p q r refl room got)

-- a datagram that was noted, and settled by the answer of the streams
pub queues : (taken : Bool) (o : Option Packet) (q : Queue) (noted : Noted) (r : Queue) → Notes o q noted r → QueuesIf taken o q (settled noted taken r)
queues taken None q noted r got = ap (λ (n : Noted). settled n taken r) got.0 ∙ got.1
queues taken (Some p) q noted r got = waits (has_room q) taken p q noted r refl got

few_by : (b : Bool) (p : Packet) (q r : Queue) → has_room q ≡ b → WaitsOrDrops b p q r → length q.waiting ≤ 32 → length r.waiting ≤ 32
few_by true p q r room got few =
    let free : length q.waiting < 32 = grind (arith, nat_tests, room) in
    let long : length r.waiting ≡ length (q.waiting ++ got.packet ∷ []) = ap (λ (x : Queue). length x.waiting) got.left in
    omega (arith, free, long, length-append q.waiting (got.packet ∷ []))
few_by false p q r room got few = subst (λ (x : Queue). length x.waiting ≤ 32) (sym got) few

-- at most 32 packets wait
pub stay_few : (taken : Bool) (o : Option Packet) (q r : Queue) → QueuesIf taken o q r → length q.waiting ≤ 32 → length r.waiting ≤ 32
stay_few taken None q r got few = subst (λ (x : Queue). length x.waiting ≤ 32) (sym got) few
stay_few false (Some p) q r got few = subst (λ (x : Queue). length x.waiting ≤ 32) (sym got) few
stay_few true (Some p) q r got few = few_by (has_room q) p q r refl got few

-- ---- polls

fewer_by : {U : Type 0} (ws : List TelephonePacket) (q : Queue) (event : Option (EventWith U)) (r : Queue) → q.waiting ≡ ws → GivesFrom ws q event r → length q.waiting ≤ 32 → length r.waiting ≤ 32
fewer_by [] q event r is got few = subst (λ (x : Queue). length x.waiting ≤ 32) (sym got.1) few
fewer_by (w ∷ ws) q event r is got few =
    let before : length q.waiting ≡ length (w ∷ ws) = ap (λ (l : List TelephonePacket). length l) is in
    let after : length r.waiting ≡ length ws = ap (λ (x : Queue). length x.waiting) got.1 in
    omega (arith, before, after, few)

pub stay_fewer : {U : Type 0} (q : Queue) (event : Option (EventWith U)) (r : Queue) → Gives q event r → length q.waiting ≤ 32 → length r.waiting ≤ 32
stay_fewer q event r got few = fewer_by q.waiting q event r refl got few

pub queues_settled : (taken : Bool) (o : Option Packet) (q : Queue) (noted : Noted) (r t : Queue) → Notes o q noted r → t ≡ settled noted taken r → QueuesIf taken o q t
queues_settled taken o q noted r t got is = subst (λ (x : Queue). QueuesIf taken o q x) (sym is) (queues taken o q noted r got)
