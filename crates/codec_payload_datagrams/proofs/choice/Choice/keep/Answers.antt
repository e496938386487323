use Rattle.std.proofs.Common.{◌≡◌, ◌∙◌, ◌++◌, ◌∷◌, [], List, Option, Some, None, ℕ, refl, sym, ap}
use Rattle.std.specs.List.{remove}
use Rattle.std.specs.Option.{is_some}
use Rattle.codec_payload_datagrams.specs.Choice.{Choosing, leaving, waiting_with, without}
use Rattle.codec_payload_datagrams.specs.declared.choice.Candidate.{Candidate}
use Rattle.codec_payload_datagrams.proofs.choice.Choice.keep.Goals as goal

pub returns-in-Some-clause-ok : goal.returns-in-Some-clause-ok
returns-in-Some-clause-ok c =
    let ssrc : ℕ = c.args.origin.ssrc in
    let before : List Candidate = c.args.self.now.candidates in
    let x : Candidate = record { received = c.args.now; ssrc = ssrc; number = c.args.origin.number; bytes = c.in_ok-bytes.bytes } in
    let at : leaving ssrc before ≡ Some c.in-Some.place =
    ap (λ (y : Choosing). leaving ssrc y.candidates) (sym c.self.view_is) ∙ ap (leaving ssrc) (sym c.deref.ensures.value) ∙ sym c.leaving-leaves.ensures ∙ c.in-Some.is in
    let items : c.remove.new.self.items ≡ waiting_with x before =
    c.remove.ensures.items ∙ ap (λ (xs : List Candidate). remove xs c.in-Some.place) (c.in_ok-push.ensures.items ∙ ap (λ (y : Choosing). y.candidates ++ x ∷ []) c.self.view_is)
    ∙ ap (λ (o : Option ℕ). without o (before ++ x ∷ [])) (sym at) in (
      sym (ap is_some at),
      (
        x,
        record { received = refl; ssrc = refl; number = refl; whole = c.in_ok-bytes.ensures.items },
        ap (λ (xs : List Candidate). record { candidates = xs; latest = c.self.inside.latest; silence = c.self.inside.silence }) items
            ∙ ap (λ (y : Choosing). record { candidates = waiting_with x before; latest = y.latest; silence = y.silence }) c.self.view_is,
      ),
    )

pub returns-in-None-clause-ok : goal.returns-in-None-clause-ok
returns-in-None-clause-ok c =
    let ssrc : ℕ = c.args.origin.ssrc in
    let before : List Candidate = c.args.self.now.candidates in
    let x : Candidate = record { received = c.args.now; ssrc = ssrc; number = c.args.origin.number; bytes = c.in_ok-bytes.bytes } in
    let at : leaving ssrc before ≡ None =
    ap (λ (y : Choosing). leaving ssrc y.candidates) (sym c.self.view_is) ∙ ap (leaving ssrc) (sym c.deref.ensures.value) ∙ sym c.leaving-leaves.ensures ∙ c.in-None.is in
    let items : c.push.new.self.items ≡ waiting_with x before =
    c.in_ok-push.ensures.items ∙ ap (λ (y : Choosing). y.candidates ++ x ∷ []) c.self.view_is ∙ ap (λ (o : Option ℕ). without o (before ++ x ∷ [])) (sym at) in (
      sym (ap is_some at),
      (
        x,
        record { received = refl; ssrc = refl; number = refl; whole = c.in_ok-bytes.ensures.items },
        ap (λ (xs : List Candidate). record { candidates = xs; latest = c.self.inside.latest; silence = c.self.inside.silence }) items
            ∙ ap (λ (y : Choosing). record { candidates = waiting_with x before; latest = y.latest; silence = y.silence }) c.self.view_is,
      ),
    )
