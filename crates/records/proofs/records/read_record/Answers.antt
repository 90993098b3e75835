use mathlib.Core.Path.{ap, sym, ◌∙◌}
use Rattle.std.proofs.lemmas.Result.{err_from_is_err_and}
use Rattle.std.specs.Prelude.{Err}
use Rattle.records.specs.Records.{malformed}
use Rattle.records.proofs.RecordLaws.{too_short_lem, unknown, wrong-length, no-unit, asked}
use Rattle.records.proofs.records.read_record.Goals as goal

pub returns-then-bytes-lt2 : goal.returns-then-bytes-lt2
returns-then-bytes-lt2 c = too_short_lem _ c.if-bytes-lt2.true

pub returns-in_err-kind : goal.returns-in_err-kind
returns-in_err-kind c =
    let p = err_from_is_err_and c.from_residual.result c.from_residual.ensures.1 in
    p.1 ∙ ap Err p.2 ∙ ap malformed c.in_err-kind.ensures.0 ∙ unknown _ _ (c.from-number.ensures ∙ c.word_at.ensures) c.if-bytes-lt2.false c.in_err-kind.ensures.1

pub returns-then-bytes-record_length : goal.returns-then-bytes-record_length
returns-then-bytes-record_length c =
    wrong-length _ _ (c.from-number.ensures ∙ c.word_at.ensures) c.if-bytes-lt2.false _ c.in_ok-kind.ensures (λ e. c.if-bytes-record_length.true (e ∙ sym c.record_length.ensures))

pub returns-then-unit-gt1 : goal.returns-then-unit-gt1
returns-then-unit-gt1 c =
    no-unit _ _ (c.from-number.ensures ∙ c.word_at.ensures) c.if-bytes-lt2.false _ c.in_ok-kind.ensures (c.if-bytes-record_length.false ∙ c.record_length.ensures) _ c.unit-unit.ensures c.if-unit-gt1.true

pub returns : goal.returns
returns c =
    asked _ _ (c.from-number.ensures ∙ c.word_at.ensures) c.if-bytes-lt2.false _ c.in_ok-kind.ensures (c.if-bytes-record_length.false ∙ c.record_length.ensures) _ c.unit-unit.ensures c.if-unit-gt1.false _ c.call.ensures
