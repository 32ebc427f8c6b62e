use Rattle.std.proofs.Common.{ℕ, ◌<◌, get_or, ◌∙◌, sym, ap, Ok, rules}
use Rattle.channel.specs.Queries as channel
use Rattle.board.specs.declared.Answer.TheVariants.{OutputState, Count, Retriggers}
use Rattle.board.specs.Board.{channel_at}
use Rattle.board_encoding.specs.Loaded.{board_in}
use Rattle.in_bytes.proofs.Standing.{kept}
use Rattle.in_bytes.specs.Inner.{query_answered, said, written}
use Rattle.in_bytes.proofs.working.ask.Goals as goal

pub returns-in-OutputState : goal.returns-in-OutputState
returns-in-OutputState c =
    let bytes = c.args.bytes.now in
    let all : (p : ℕ) → get_or bytes p 0 < 256 = search rules in
    let same = kept bytes all c.requires.holds_board in
    let answer = c.get_output_state.ensures ∙ ap channel.get_output_state (c.channel_in-c.ensures ∙ ap (channel_at (board_in bytes)) c.from-i.ensures) in
    λ events. (λ i. said (Ok (OutputState (answer i))) (sym same i) events)
    ∙ ap (λ q. written (query_answered (board_in bytes) c.args.n q events) bytes) (sym c.in-OutputState.is)

pub returns-in-ChannelCount : goal.returns-in-ChannelCount
returns-in-ChannelCount c =
    let bytes = c.args.bytes.now in
    let all : (p : ℕ) → get_or bytes p 0 < 256 = search rules in
    let same = kept bytes all c.requires.holds_board in
    let answer = c.get_channel_count.ensures ∙ ap channel.get_channel_count (c.channel_in-c.ensures ∙ ap (channel_at (board_in bytes)) c.from-i.ensures) in
    λ events. (λ i. said (Ok (Count (answer i))) (sym same i) events)
    ∙ ap (λ q. written (query_answered (board_in bytes) c.args.n q events) bytes) (sym c.in-ChannelCount.is)

pub returns-in-Retriggers : goal.returns-in-Retriggers
returns-in-Retriggers c =
    let bytes = c.args.bytes.now in
    let all : (p : ℕ) → get_or bytes p 0 < 256 = search rules in
    let same = kept bytes all c.requires.holds_board in
    let answer = c.does_channel_retrigger.ensures ∙ ap channel.does_channel_retrigger (c.channel_in-c.ensures ∙ ap (channel_at (board_in bytes)) c.from-i.ensures) in
    λ events. (λ i. said (Ok (Retriggers (answer i))) (sym same i) events)
    ∙ ap (λ q. written (query_answered (board_in bytes) c.args.n q events) bytes) (sym c.in-Retriggers.is)
