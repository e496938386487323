-- A range of pushed packets is the end of one unit's packets.
use Rattle.std.proofs.Common.{◌≡◌, ℕ, zero, suc, ◌<◌, ◌≤◌, ◌+◌, ◌-◌, [], ◌∷◌, ◌++◌, List, length, take, drop, refl, ap, sym, ◌∙◌, arith, Bool, Some, add-one, inl, inr}
use Rattle.std.specs.Prelude.{slice_get}
use Rattle.std.proofs.lemmas.Bool.{cases_lt}
use Rattle.std.proofs.lemmas.List.{drop-append-le, take-append-drop, length-append, length-take-le}
use Rattle.std.proofs.Math.Seq.{drop-append-add}
use Rattle.codec_payload_base.specs.Time.{Time}
use Rattle.codec_payload_buffer.proofs.FrameParts.{IsRun, BeginsWithHead}
use Rattle.codec_payload_codec.specs.Depacketizers.{DepacketizerKind, head_in, tail_in}
use Rattle.codec_payload_buffer_runs.specs.Headline.{IsPushOf, ArePushesBy}
use Rattle.codec_payload_buffer.specs.Held.{Held}
use Rattle.codec_payload_payloader.specs.Packets.{Packet}
use Rattle.codec_payload_buffer_runs.specs.LawfulUnits.{StartsWithHead, payloads_held, payloads_sent, AllLawful}
use Rattle.codec_payload_buffer_runs.specs.SentStream.{SentUnit, packets_of, EndsWithTail}
use Rattle.codec_payload_buffer.specs.Steps.{metas_of}
use Rattle.codec_payload_metadata.specs.declared.meta.RtpMeta.{RtpMeta}
use Rattle.codec_payload_buffer_runs.specs.declared.run.Sent.{Sent}
use Rattle.codec_payload_buffer_runs.specs.declared.run.Step.{Step}

-- a packet as a buffer over a depacketizer of this type holds it
abbrev pub held_as : DepacketizerKind → RtpMeta → List ℕ → Held
held_as kind meta payload = record { meta = meta; bytes = payload; head = head_in kind payload; tail = tail_in kind meta.header.marker payload }

pub slice_append : {X : Type 0} (xs ys : List X) (k : ℕ) (x : X) → slice_get xs k ≡ Some x → slice_get (xs ++ ys) k ≡ Some x
slice_append [] ys k x h = absurd (cc)
slice_append (y ∷ xs) ys zero x h = h
slice_append (y ∷ xs) ys (suc k) x h = slice_append xs ys k x h

pub drop_at : {X : Type 0} (xs : List X) (k : ℕ) (x : X) → slice_get xs k ≡ Some x → drop k xs ≡ x ∷ drop (k + 1) xs
drop_at [] k x h = absurd (cc)
drop_at (y ∷ xs) zero x h = ap (λ z. z ∷ xs) (cc)
drop_at (y ∷ xs) (suc k) x h = rw add-one (rw add-one at (drop_at xs k x h))

pub drop_next : {X : Type 0} (xs : List X) (i : ℕ) (e : X) (es : List X) → drop i xs ≡ e ∷ es → (slice_get xs i ≡ Some e) × (drop (i + 1) xs ≡ es)
drop_next [] zero e es h = absurd (cc)
drop_next [] (suc i) e es h = absurd (cc)
drop_next (x ∷ xs) zero e es h = (cc, cc)
drop_next (x ∷ xs) (suc i) e es h = let r = drop_next xs i e es h in (r.0, rw add-one (rw add-one at r.1))

drop_over : {X : Type 0} (xs ys : List X) (k : ℕ) → length xs ≤ k → drop k (xs ++ ys) ≡ drop (k - length xs) ys
drop_over xs ys k le = let e : k ≡ length xs + (k - length xs) = omega arith in ap (λ j. drop j (xs ++ ys)) e ∙ drop-append-add xs ys (k - length xs)

ends_drop : (kind : DepacketizerKind) (k : ℕ) (ps : List Packet) → EndsWithTail kind ps → k < length ps → EndsWithTail kind (drop k ps)
ends_drop kind zero ps e l = e
ends_drop kind (suc k) [] e l = absurd e
ends_drop kind (suc k) (p ∷ []) e l = absurd (omega arith)
ends_drop kind (suc k) (p ∷ q ∷ ps) e l = ends_drop kind k (q ∷ ps) e.1 (omega arith)

-- a push reports the packet's number, its time by the clock of the run, and the properties that make it a last packet
pub record IsFaithful (known : ℕ → Packet → RtpMeta → Type 0) (clock_rate : ℕ) (kind : DepacketizerKind) : Type 0 where
  pub number : (k : ℕ) (q : Packet) (m : RtpMeta) → known k q m → m.seq_no.0 ≡ q.number
  pub time : (k : ℕ) (q : Packet) (m : RtpMeta) → known k q m → m.time ≡ record { numer = q.rtp_time; rate = clock_rate }
  pub tail : (k : ℕ) (q : Packet) (m : RtpMeta) → known k q m → tail_in kind m.header.marker q.payload ≡ tail_in kind q.marker q.payload

-- a push of the packet itself reports all this
pub push_faithful : (all_steps : List Step) (sends : List Sent) (clock_rate : ℕ) (kind : DepacketizerKind) → IsFaithful (IsPushOf all_steps sends clock_rate) clock_rate kind
push_faithful all_steps sends clock_rate kind = record {
  number = λ k q m push. ap (λ (x : RtpMeta). x.seq_no.0) push.3;
  time = λ k q m push. ap (λ (x : RtpMeta). x.time) push.3;
  tail = λ k q m push. ap (λ (x : RtpMeta). tail_in kind x.header.marker q.payload) push.3;
}

module _ (known : ℕ → Packet → RtpMeta → Type 0) (clock_rate : ℕ) (kind : DepacketizerKind) (faithful : IsFaithful known clock_rate kind) where
  -- the held packets are pushes of a beginning of these packets, from index k on
  abbrev pub RowOf : ℕ → List Packet → List Held → Type 0
  RowOf k qs [] = Unit {0}
  RowOf k [] (p ∷ ps) = ⊥
  RowOf k (q ∷ qs) (p ∷ ps) = known k q p.meta × (p ≡ held_as kind p.meta q.payload) × RowOf (k + 1) qs ps

  -- and of exactly these
  abbrev pub Exact : ℕ → List Packet → List Held → Type 0
  Exact k [] [] = Unit {0}
  Exact k [] (p ∷ ps) = ⊥
  Exact k (q ∷ qs) [] = ⊥
  Exact k (q ∷ qs) (p ∷ ps) = known k q p.meta × (p ≡ held_as kind p.meta q.payload) × Exact (k + 1) qs ps

  pub tail_is : (k : ℕ) (q : Packet) (p : Held) → known k q p.meta → p ≡ held_as kind p.meta q.payload → p.tail ≡ tail_in kind q.marker q.payload
  tail_is k q p push is = ap (λ (h : Held). h.tail) is ∙ faithful.tail k q p.meta push

  row_exact : (k f last : ℕ) (time : Time) (back rest : List Packet) (ps : List Held) → EndsWithTail kind back → IsRun f last time ps → RowOf k (back ++ rest) ps → Exact k back ps
  row_exact k f last time [] rest ps ends run row = absurd ends
  row_exact k f last time (b ∷ bs) rest [] ends run row = absurd run
  row_exact k f last time (b ∷ []) rest (p ∷ []) ends run row = (row.0, row.1, tt)
  row_exact k f last time (b ∷ []) rest (p ∷ q ∷ ps) ends run row = let t = tail_is k b p row.0 row.1 in absurd (cc (t, run.2, ends))
  row_exact k f last time (b ∷ c ∷ bs) rest (p ∷ []) ends run row = let t = tail_is k b p row.0 row.1 in absurd (cc (t, run.3, ends.0))
  row_exact k f last time (b ∷ c ∷ bs) rest (p ∷ q ∷ ps) ends run row = (row.0, row.1, row_exact (k + 1) (f + 1) last time (c ∷ bs) rest (q ∷ ps) ends.1 run.3 row.2)

  -- the range is the end of one unit
  pub record IsEndOf (units : List SentUnit) (k base : ℕ) (ps : List Held) : Type 0 where
    pub place : ℕ
    pub sent : SentUnit
    pub at_place : slice_get units place ≡ Some sent
    pub missing : List Packet
    pub rest : List Packet
    pub whole : missing ++ rest ≡ sent.packets
    pub exact : Exact (base + k) rest ps
    pub index : k ≡ length (packets_of (take place units)) + length missing

  pub unit_of_row : (splits : Bool) (units : List SentUnit) (k base f last : ℕ) (time : Time) (ps : List Held) → AllLawful kind splits units → IsRun f last time ps
      → RowOf (base + k) (drop k (packets_of units)) ps → IsEndOf units k base ps
  unit_of_row splits units k base f last time [] lawful run row = absurd run
  unit_of_row splits [] zero base f last time (p ∷ ps) lawful run row = absurd row
  unit_of_row splits [] (suc k) base f last time (p ∷ ps) lawful run row = absurd row
  unit_of_row splits (u ∷ us) k base f last time (p ∷ ps) lawful run row = elim (cases_lt k (length u.packets)) [
    | inl within ↦
        let here = rw (drop-append-le k u.packets (packets_of us) (omega arith)) at row in
        record {
          place = 0;
          sent = u;
          at_place = refl;
          missing = take k u.packets;
          rest = drop k u.packets;
          whole = take-append-drop k u.packets;
          exact = row_exact (base + k) f last time (drop k u.packets) (packets_of us) (p ∷ ps) (ends_drop kind k u.packets lawful.0.ends within) run here;
          index = omega (arith, length-take-le k u.packets (omega arith));
        }
    | inr over ↦
        let n = length u.packets in
        let same : base + k ≡ (base + n) + (k - n) = omega arith in
        let there = rw (drop_over u.packets (packets_of us) k over, same) at row in
        let rest = unit_of_row splits us (k - n) (base + n) f last time (p ∷ ps) lawful.1 run there in
        record {
          place = rest.place + 1;
          sent = rest.sent;
          at_place = rw add-one rest.at_place;
          missing = rest.missing;
          rest = rest.rest;
          whole = rest.whole;
          exact = rw same rest.exact;
          index = rw add-one (omega (arith, rest.index, length-append u.packets (packets_of (take rest.place us))));
        }
  ]

  pub exact_length : (k : ℕ) (rest : List Packet) (ps : List Held) → Exact k rest ps → length rest ≡ length ps
  exact_length k [] [] e = refl
  exact_length k [] (p ∷ ps) e = absurd e
  exact_length k (q ∷ qs) [] e = absurd e
  exact_length k (q ∷ qs) (p ∷ ps) e = omega (arith, exact_length (k + 1) qs ps e.2)

  pub exact_payloads : (k : ℕ) (rest : List Packet) (ps : List Held) → Exact k rest ps → payloads_held ps ≡ payloads_sent rest
  exact_payloads k [] [] e = refl
  exact_payloads k [] (p ∷ ps) e = absurd e
  exact_payloads k (q ∷ qs) [] e = absurd e
  exact_payloads k (q ∷ qs) (p ∷ ps) e = let b : p.bytes ≡ q.payload = ap (λ (h : Held). h.bytes) e.1 in let r = exact_payloads (k + 1) qs ps e.2 in cc

  pub exact_metas : (k : ℕ) (rest : List Packet) (ps : List Held) → Exact k rest ps → ArePushesBy known k rest (metas_of ps)
  exact_metas k [] [] e = tt
  exact_metas k [] (p ∷ ps) e = absurd e
  exact_metas k (q ∷ qs) [] e = absurd e
  exact_metas k (q ∷ qs) (p ∷ ps) e = (e.0, exact_metas (k + 1) qs ps e.2)

  pub exact_starts : (k : ℕ) (rest : List Packet) (ps : List Held) → Exact k rest ps → BeginsWithHead ps → StartsWithHead kind rest
  exact_starts k [] [] e b = absurd b
  exact_starts k [] (p ∷ ps) e b = absurd e
  exact_starts k (q ∷ qs) [] e b = absurd e
  exact_starts k (q ∷ qs) (p ∷ ps) e b = sym (ap (λ (h : Held). h.head) e.1) ∙ b
