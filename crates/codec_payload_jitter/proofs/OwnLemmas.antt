-- A custom depacketizer behind a jitter buffer: what it decides, and that it stays.
use Rattle.std.proofs.Common.{◌≡◌, ◌∙◌, refl, ap, sym, subst, ℕ, List, [], ◌∷◌, Bool, true, false, ◌&&◌, not, cond, ◌⊎◌, inl, inr, Option, Some, None, Result, Ok, Err, length}
use Rattle.std.specs.Prelude.{Contains, nat_lt}
use Rattle.codec_payload_base.specs.declared.error.PacketError.{PacketError}
use Rattle.codec_payload_base.specs.declared.error.PacketError.TheVariants as faults
use Rattle.codec_payload_codec.specs.Depacketizers.{is_built_in_depacketizer}
use Rattle.codec_payload_buffer.specs.Blanks.{is_right_after, passed_number}
use Rattle.codec_payload_buffer.specs.Held.{Held, number_of, has_number, placed}
use Rattle.codec_payload_metadata.specs.Release.{Release}
use Rattle.codec_payload_buffer.specs.Steps.{State, Pops, TakesFrame, arrived_by, is_dropped, kept_to_limit, nothing_unpacked, packets_of_frame, pushed, without_lowest}
use Rattle.codec_payload_metadata.specs.declared.meta.RtpMeta.{RtpMeta}
use Rattle.codec_payload_buffer.proofs.MemberLemmas.{IsIn, contains_in, in_contains}
use Rattle.codec_payload_buffer.proofs.OwnLemmas.{passes_stays, unpacks_stays}
use Rattle.codec_payload_jitter.specs.NoMediaNumbers.{is_done, passed_no_media}
use Rattle.codec_payload_jitter.specs.OwnReceiving.{IsDecidedBy, OwnStores}
use Rattle.codec_payload_jitter.specs.Receiving.{PopsWith, Receiving, settled}

-- a buffer that stays stores nothing
pub stores_none : {B : Type 0} (is_head : B → List ℕ → Bool) (is_tail : B → Bool → List ℕ → Bool) (s t : State) → t ≡ s → OwnStores is_head is_tail s t
stores_none is_head is_tail s t same = record {
  stays = ap (λ (x : State). x.depacketizer) same;
  decided = λ p here. inl (subst (λ (x : State). Contains x.held p) same here);
}

-- one step after another
pub stores_then : {B : Type 0} (is_head : B → List ℕ → Bool) (is_tail : B → Bool → List ℕ → Bool) (s mid t : State) → OwnStores is_head is_tail s mid → OwnStores is_head is_tail mid t
    → OwnStores is_head is_tail s t
stores_then is_head is_tail s mid t first second = record {
  stays = second.stays ∙ first.stays;
  decided = λ p here. elim (second.decided p here) [ inl before ↦ first.decided p before | inr by ↦ inr by ];
}

in_placed : (q p : Held) (ps : List Held) → IsIn q (placed p ps) → IsIn q ps ⊎ (q ≡ p)
in_placed q p [] (inl is) = inr is
in_placed q p [] (inr none) = absurd none
in_placed q p (r ∷ rs) here = by_order (nat_lt (number_of r) (number_of p)) (in_placed q p rs) here
  where
    by_order : (b : Bool) → (IsIn q (placed p rs) → IsIn q rs ⊎ (q ≡ p)) → IsIn q (cond b (r ∷ placed p rs) (p ∷ r ∷ rs)) → IsIn q (r ∷ rs) ⊎ (q ≡ p)
    by_order true rest (inl is) = inl (inl is)
    by_order true rest (inr later) = elim (rest later) [ inl old ↦ inl (inr old) | inr is ↦ inr is ]
    by_order false rest (inl is) = inr is
    by_order false rest (inr old) = inl old

in_rest : (q : Held) (s : State) (ps : List Held) → s.held ≡ ps → IsIn q (without_lowest s ps).held → IsIn q ps
in_rest q s [] is here = subst (λ (hs : List Held). IsIn q hs) is here
in_rest q s (p ∷ ps) is here = inr here

lowest_stays : (s : State) (ps : List Held) → (without_lowest s ps).depacketizer ≡ s.depacketizer
lowest_stays s [] = refl
lowest_stays s (p ∷ ps) = refl

in_kept : (q : Held) (s : State) → IsIn q (kept_to_limit s).held → IsIn q s.held
in_kept q s here = by_limit (nat_lt s.limit (length s.held)) here
  where
    by_limit : (b : Bool) → IsIn q (cond b (without_lowest s s.held) s).held → IsIn q s.held
    by_limit true here = in_rest q s s.held refl here
    by_limit false here = here

kept_stays : (s : State) → (kept_to_limit s).depacketizer ≡ s.depacketizer
kept_stays s = by_limit (nat_lt s.limit (length s.held))
  where
    by_limit : (b : Bool) → (cond b (without_lowest s s.held) s).depacketizer ≡ s.depacketizer
    by_limit true = lowest_stays s s.held
    by_limit false = refl

in_pushed : (q : Held) (s : State) (p : Held) → IsIn q (pushed s p).held → IsIn q s.held ⊎ (q ≡ p)
in_pushed q s p here = by_drop (is_dropped s (number_of p)) here
  where
    by_drop : (b : Bool) → IsIn q (cond b s (kept_to_limit (record s { held = placed p s.held }))).held → IsIn q s.held ⊎ (q ≡ p)
    by_drop true here = inl here
    by_drop false here = in_placed q p s.held (in_kept q (record s { held = placed p s.held }) here)

pushed_stays : (s : State) (p : Held) → (pushed s p).depacketizer ≡ s.depacketizer
pushed_stays s p = by_drop (is_dropped s (number_of p))
  where
    by_drop : (b : Bool) → (cond b s (kept_to_limit (record s { held = placed p s.held }))).depacketizer ≡ s.depacketizer
    by_drop true = refl
    by_drop false = kept_stays (record s { held = placed p s.held })

-- a push of a packet that a value decides
pub stores_pushed : {B : Type 0} (is_head : B → List ℕ → Bool) (is_tail : B → Bool → List ℕ → Bool) (s t : State) (b : B) (meta : RtpMeta) (bytes : List ℕ)
    → t ≡ pushed s (arrived_by (is_head b) (is_tail b) meta bytes) → OwnStores is_head is_tail s t
stores_pushed is_head is_tail s t b meta bytes is =
    let p : Held = arrived_by (is_head b) (is_tail b) meta bytes in
    record {
      stays = ap (λ (x : State). x.depacketizer) is ∙ pushed_stays s p;
      decided = λ q here. elim (in_pushed q s p (in_contains q (pushed s p).held (subst (λ (x : State). Contains x.held q) is here))) [
        | inl before ↦ inl (contains_in q s.held before)
        | inr same ↦ inr (subst (λ (x : Held). IsDecidedBy is_head is_tail x) (sym same) (b, refl, refl))
      ];
    }

-- numbers without media leave the depacketizer
passed_stays : (s : State) (ns : List ℕ) → (passed_no_media s ns).depacketizer ≡ s.depacketizer
passed_stays s [] = refl
passed_stays s (n ∷ ns) = by_tests (is_done s n) (is_right_after s.cutoff n && not (has_number n s.held)) (passed_stays (passed_number s n) ns)
  where
    by_tests : (b k : Bool) → (passed_no_media (passed_number s n) ns).depacketizer ≡ (cond k (record s { cutoff = Some n }) s).depacketizer → (cond b (passed_no_media (passed_number s n) ns) s).depacketizer ≡ s.depacketizer
    by_tests false k rest = refl
    by_tests true false rest = rest
    by_tests true true rest = rest

pub settled_stays : (r : Receiving) → (settled r).buffer.depacketizer ≡ r.buffer.depacketizer
settled_stays r = passed_stays r.buffer r.no_media_numbers

-- a pop leaves a custom depacketizer custom
takes_stays : (s : State) (answer : Result Release PacketError) (t : State) → TakesFrame s answer t → is_built_in_depacketizer t.depacketizer ≡ is_built_in_depacketizer s.depacketizer
takes_stays s (Ok r) t releases =
    ap (λ (x : State). is_built_in_depacketizer x.depacketizer) releases.left
    ∙ unpacks_stays s.depacketizer (packets_of_frame s releases.frame) nothing_unpacked (Ok (record { bytes = r.bytes; extra = r.codec_extra })) releases.depacketizer releases.gives
takes_stays s (Err fault) t (inl (memory, stalls)) =
    ap (λ (x : State). is_built_in_depacketizer x.depacketizer) stalls.left
    ∙ elim stalls.reached [
      | inl same ↦ ap is_built_in_depacketizer same
      | inr gives ↦ unpacks_stays s.depacketizer (packets_of_frame s stalls.frame) nothing_unpacked (Err faults.OutOfMemory) stalls.depacketizer gives
    ]
takes_stays s (Err fault) t (inr refuses) =
    ap (λ (x : State). is_built_in_depacketizer x.depacketizer) refuses.left
    ∙ unpacks_stays s.depacketizer (packets_of_frame s refuses.frame) nothing_unpacked (Err fault) refuses.depacketizer refuses.gives

pub pops_stays : (s t : State) (answer : Option (Result Release PacketError)) → Pops s answer t → is_built_in_depacketizer t.depacketizer ≡ is_built_in_depacketizer s.depacketizer
pops_stays s t None (over, passes) = passes_stays s t over passes.0
pops_stays s t (Some answer) (over, pops) = takes_stays pops.0 answer t pops.2 ∙ passes_stays s pops.0 over pops.1

pub pops_with_stays : (waiting : Option ℕ) (r t : Receiving) (answer : Option (Result Release PacketError)) → PopsWith waiting r answer t
    → is_built_in_depacketizer t.buffer.depacketizer ≡ is_built_in_depacketizer r.buffer.depacketizer
pops_with_stays None r t answer pops = ap (λ (x : Receiving). is_built_in_depacketizer x.buffer.depacketizer) pops.1
pops_with_stays (Some hold_back) r t answer pops =
    ap (λ (x : Receiving). is_built_in_depacketizer x.buffer.depacketizer) pops.2 ∙ pops_stays (record r.buffer { hold_back = hold_back }) pops.0 answer pops.1
