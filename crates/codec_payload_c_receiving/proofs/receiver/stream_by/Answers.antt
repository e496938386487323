use Rattle.std.proofs.Common.{◌∙◌, ap, inl, inr, is_ok, refl, subst, sym, ℕ, List}
use Rattle.codec_payload_core.specs.Depacketizers.{depacketizer_state_of}
use Rattle.codec_payload_c_receiving.specs.StreamReceivers.{AreSettings}
use Rattle.codec_payload_c_receiving.proofs.RangeLemmas.{ok_settings}
use Rattle.codec_payload_c_receiving.proofs.receiver.stream_by.Goals as goal

pub returns-clause-ok : goal.returns-clause-ok
returns-clause-ok c = (
  record {
    settings = c.in-Some.settings;
    are = subst (λ (xs : List ℕ). AreSettings c.args.settings.now xs c.in-Some.settings) (c.copied-no_media.ensures c.if-not-has_memory.false) c.in-Some.ensures.settings;
    by = depacketizer_state_of c.args.depacketizer;
    depacketizer_is = refl;
    made = sym c.new.ensures ∙ c.in-Ok.is;
    waiting = c.new-waiting.ensures;
    lent = c.new-lent.ensures.items;
    taken = c.new-taken.ensures;
  },
  sym (ok_settings c.args.settings.now _ c.in-Some.settings _ c.in-Some.ensures.settings c.in-Some.ensures.made) ∙ ap is_ok (sym c.new.ensures ∙ c.in-Ok.is),
)

pub returns-then-not-has_memory-clause-err : goal.returns-then-not-has_memory-clause-err
returns-then-not-has_memory-clause-err c = inr (refl, sym (ok_settings c.args.settings.now _ c.in-Some.settings _ c.in-Some.ensures.settings c.in-Some.ensures.made) ∙ ap is_ok (sym c.new.ensures ∙ c.in-Ok.is))

pub returns-in_default-new-clause-err : goal.returns-in_default-new-clause-err
returns-in_default-new-clause-err c = inl (refl, sym (ok_settings c.args.settings.now _ c.in-Some.settings _ c.in-Some.ensures.settings c.in-Some.ensures.made) ∙ ap is_ok (sym c.new.ensures ∙ c.in_default-new.is))
