-- Results of calls that can run out of memory.
use Rattle.std.proofs.Common.{◌≡◌, ◌≢◌, ℕ, List, Result, Ok, Err, refl, sym, ap, ◌∙◌, subst}
use Rattle.std.specs.Prelude.{IfOk}
use Rattle.std.specs.Result.{IsErr, IsErrAnd}
use Rattle.codec_payload_base.specs.Bits.{bits_of}
use Rattle.codec_payload_syntax.specs.Syntax.{IsSpelled, without_rest}
use Rattle.codec_payload_syntax.proofs.SyntaxLemmas.{bits_of_are, ok_is, spelled_again, spelled_takes}
use Rattle.codec_payload_descriptor.specs.declared.error.DescriptorError.{DescriptorError}
use Rattle.codec_payload_descriptor.specs.declared.error.DescriptorError.TheVariants as failures
use Rattle.codec_payload_descriptor.specs.declared.error.DescriptorFault.{DescriptorFault}
use Rattle.codec_payload_descriptor.specs.declared.error.DescriptorFault.TheVariants as faults
use Rattle.codec_payload_descriptor.specs.Syntax.{Syntax, read, value_of, Fails, Gives}

-- a fault of a step is the fault of the call
pub fails_with : {X Y : Type 0} (view : X → Y) (r : Result X DescriptorError) (f : DescriptorFault) (r' : Result Y DescriptorFault) → IsErr r × IsErrAnd r (λ e. e ≡ failures.Fault f) → r' ≡ Err f → Gives view r r'
fails_with view (Ok x) f r' h e = absurd h.1
fails_with view (Err d) f r' h e = subst (λ (t : DescriptorError). Fails t r') (sym h.1) e

abbrev same : {A : Type 0} → A → A
same x = x

module _ {A : Type 0} (s : Syntax A) (bytes : List ℕ) where
  pub is_spelled : (result : Result A DescriptorError) → Gives same result (value_of s (bits_of bytes)) → IfOk result (λ x. IsSpelled s (bits_of bytes) x)
  is_spelled (Ok x) e = of_read (read s (bits_of bytes)) refl e
    where
      of_read : (r : Result (A × List ℕ) DescriptorFault) → read s (bits_of bytes) ≡ r → without_rest r ≡ Ok x → IsSpelled s (bits_of bytes) x
      of_read (Ok y) is e = subst (λ (z : A). IsSpelled s (bits_of bytes) z) (ok_is y.0 x e) (y.1, (spelled_takes faults.Short s (bits_of bytes) y.0 y.1 (bits_of_are bytes) is).0)
      of_read (Err d) is e = absurd cc
  is_spelled (Err d) e = tt

  pub is_accepted : (result : Result A DescriptorError) → Gives same result (value_of s (bits_of bytes)) → (x : A) → IsSpelled s (bits_of bytes) x → result ≢ Err failures.OutOfMemory → result ≡ Ok x
  is_accepted (Ok y) e x (rest, is) some =
      let again : value_of s (bits_of bytes) ≡ Ok x = ap without_rest (spelled_again faults.Short s (bits_of bytes) x rest is) in
      ap done_of (ok_is y x (sym e ∙ again))
    where
      done_of : A → Result A DescriptorError
      done_of z = Ok z
  is_accepted (Err failures.OutOfMemory) e x (rest, is) some = absurd (some refl)
  is_accepted (Err (failures.Fault f)) e x (rest, is) some =
      let again : value_of s (bits_of bytes) ≡ Ok x = ap without_rest (spelled_again faults.Short s (bits_of bytes) x rest is) in
      absurd (cc (e, again))
