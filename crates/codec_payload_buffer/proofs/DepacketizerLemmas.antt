-- The unit that a codec makes of given payloads is determined.
use Rattle.std.proofs.Common.{◌≡◌, ◌∙◌, sym, ap, ℕ, subst, List, [], ◌∷◌, Result, Ok, Err, true}
use Rattle.std.specs.Prelude.{MatchResult}
use Rattle.codec_payload_base.specs.declared.error.PacketError.{PacketError}
use Rattle.codec_payload_base.specs.declared.interface.CodecExtra.{CodecExtra}
use Rattle.codec_payload_codec.proofs.CodecLemmas.{depacketizer_stays}
use Rattle.codec_payload_codec.proofs.StepLemmas.{step_same}
use Rattle.codec_payload_codec.specs.Depacketizers.{DepacketizerState, is_built_in_depacketizer, DepacketizerStep}
use Rattle.codec_payload_buffer.specs.Held.{Held}
use Rattle.codec_payload_buffer.specs.Steps.{Unpacked, Unpacks}

unpacked_same : (u v : Unpacked) → u.bytes ≡ v.bytes → u.extra ≡ v.extra → u ≡ v
unpacked_same u v a b = ap (λ (n : List ℕ). unpacked n u.extra) a ∙ ap (λ (x : CodecExtra). unpacked v.bytes x) b
  where
    unpacked : List ℕ → CodecExtra → Unpacked
    unpacked n x = record { bytes = n; extra = x }

-- the unit that a codec makes of given payloads is determined
pub unpacks_same : (d : DepacketizerState) (ps : List Held) (u n m : Unpacked) (e f : DepacketizerState) → is_built_in_depacketizer d ≡ true
    → Unpacks d ps u (Ok n) e → Unpacks d ps u (Ok m) f → (n ≡ m) × (e ≡ f)
unpacks_same d [] u n m e f built_in x y = let i : n ≡ u = cc in let j : m ≡ u = cc in (i ∙ sym j, x.1 ∙ sym y.1)
unpacks_same d (p ∷ ps) u n m e f built_in x y = cases (λ c v kept x y. unpacks_same c ps v n m e f kept x y) x.0 y.0 x.1 y.1 x.2 y.2 x.3 y.3 x.4 y.4
  where
    cases : ((c : DepacketizerState) (v : Unpacked) → is_built_in_depacketizer c ≡ true → Unpacks c ps v (Ok n) e → Unpacks c ps v (Ok m) f → (n ≡ m) × (e ≡ f))
        → (a b : Result (Unit {0}) PacketError) (c k : DepacketizerState) (v w : Unpacked)
        → DepacketizerStep d p.bytes u.bytes u.extra a c v.bytes v.extra → DepacketizerStep d p.bytes u.bytes u.extra b k w.bytes w.extra
        → MatchResult a (λ _. Unpacks c ps v (Ok n) e) (λ fault. (Ok n ≡ Err fault) × (e ≡ c))
        → MatchResult b (λ _. Unpacks k ps w (Ok m) f) (λ fault. (Ok m ≡ Err fault) × (f ≡ k)) → (n ≡ m) × (e ≡ f)
    cases again (Ok _) (Ok _) c k v w i j x y =
        let same = step_same d p.bytes u.bytes u.extra c k v.bytes w.bytes v.extra w.extra built_in i j in
        again c v (depacketizer_stays d p.bytes u.bytes u.extra (Ok tt) c v.bytes v.extra i ∙ built_in) x
        (subst (λ (z : DepacketizerState). Unpacks z ps v (Ok m) f) (sym same.0) (subst (λ (z : Unpacked). Unpacks k ps z (Ok m) f) (sym (unpacked_same v w same.1 same.2)) y))
    cases again (Err a) b c k v w i j x y = let no = x.0 in absurd (cc)
    cases again (Ok a) (Err b) c k v w i j x y = let no = y.0 in absurd (cc)
