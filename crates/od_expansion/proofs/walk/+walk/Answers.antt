use Rattle.std.proofs.Common.{◌∙◌, ◌∷◌, List, ℕ, ap, sym, subst, arith, rules, refl, get_or, slice_get}
use Rattle.od_rule_text.specs.declared.rule_file.KeyText.{KeyText}
use Rattle.od_rule_text.specs.Expansion.{Piece, occurs}
use Rattle.od_expansion.specs.declared.state.State.TheVariants.{Unseen, Known}
use Rattle.od_expansion.specs.Places.{Fails}
use Rattle.od_expansion.specs.Walks.{AppendsVariable, IsStop}
use Rattle.od_expansion.proofs.Walks.{walked_more, walked_end, walked_stop, keeps_more, unknown_name, known_name, state_there, opened_fewer, opened_ready, keeps_written, known_unseen, expanded_here, expanded_name, stopped_name}
use Rattle.od_expansion.proofs.walk.+walk.Goals as goal

pub append_unseen-expand_text-requires : goal.append_unseen-expand_text-requires
append_unseen-expand_text-requires t c =
    (omega (arith, c.decreases, opened_fewer c.args.states.now.items c.args.place c.requires.unseen), opened_ready c.args.vars.now c.args.names.now c.args.states.now.items c.args.place c.requires.ready c.requires.unseen)

pub append_unseen-returns-in_err-appended-in-Ok-clause-states : goal.append_unseen-returns-in_err-appended-in-Ok-clause-states
append_unseen-returns-in_err-appended-in-Ok-clause-states t c =
    let item : KeyText = get_or c.args.vars.now c.args.place c.index-vars-place.result in
    keeps_written c.args.vars.now c.args.states.now.items c.expand_text.new.states.items c.args.place (Known c.in-Ok.text) c.requires.unseen c.in-Ok.ensures.states
    (expanded_here c.args.vars.now c.args.names.now c.args.states.now.items c.args.name.now c.args.place item c.in-Ok.text c.requires.ready c.requires.there (ap (λ d. get_or c.args.vars.now c.args.place d) c.index-vars-place.is) c.in-Ok.ensures.value) refl

pub append_unseen-returns-in_ok-appended-in-Ok-clause-value : goal.append_unseen-returns-in_ok-appended-in-Ok-clause-value
append_unseen-returns-in_ok-appended-in-Ok-clause-value t c =
    let item : KeyText = get_or c.args.vars.now c.args.place c.index-vars-place.result in
    expanded_name c.args.vars.now c.args.names.now c.args.states.now.items c.args.name.now c.args.place item c.in-Ok.text c.args.out.now c.append-appended.new.self c.requires.ready c.requires.there
    (ap (λ d. get_or c.args.vars.now c.args.place d) c.index-vars-place.is) c.in-Ok.ensures.value c.in_ok-appended-in-Ok.ensures

pub append_unseen-returns-in_ok-appended-in-Ok-clause-states : goal.append_unseen-returns-in_ok-appended-in-Ok-clause-states
append_unseen-returns-in_ok-appended-in-Ok-clause-states t c =
    let item : KeyText = get_or c.args.vars.now c.args.place c.index-vars-place.result in
    keeps_written c.args.vars.now c.args.states.now.items c.expand_text.new.states.items c.args.place (Known c.in-Ok.text) c.requires.unseen c.in-Ok.ensures.states
    (expanded_here c.args.vars.now c.args.names.now c.args.states.now.items c.args.name.now c.args.place item c.in-Ok.text c.requires.ready c.requires.there (ap (λ d. get_or c.args.vars.now c.args.place d) c.index-vars-place.is) c.in-Ok.ensures.value) refl

pub append_unseen-returns-in-Err-clause-fails : goal.append_unseen-returns-in-Err-clause-fails
append_unseen-returns-in-Err-clause-fails t c =
    let item : KeyText = get_or c.args.vars.now c.args.place c.index-vars-place.result in
    stopped_name c.args.vars.now c.args.names.now c.args.states.now.items c.args.name.now c.args.place item c.in-Err.stop c.requires.ready c.requires.there (ap (λ d. get_or c.args.vars.now c.args.place d) c.index-vars-place.is) c.requires.unseen
    c.in-Err.ensures.fails

pub append_unseen-returns-in-Err-clause-states : goal.append_unseen-returns-in-Err-clause-states
append_unseen-returns-in-Err-clause-states t c =
    keeps_written c.args.vars.now c.args.states.now.items c.expand_text.new.states.items c.args.place Unseen c.requires.unseen c.in-Err.ensures.states
    (known_unseen c.args.vars.now (slice_get c.args.vars.now c.args.place)) refl

pub append_variable-returns-in_default-clause-fails : goal.append_variable-returns-in_default-clause-fails
append_variable-returns-in_default-clause-fails t c =
    unknown_name c.args.vars.now c.args.names.now c.args.states.now.items c.args.name.now c.requires (sym c.place.ensures ∙ c.in_default.is)

pub append_variable-append_unseen-requires : goal.append_variable-append_unseen-requires
append_variable-append_unseen-requires t c =
    let there = sym c.place.ensures ∙ c.in-Some.is in
    (omega (arith, c.decreases), (c.requires, (there, state_there c.args.vars.now c.args.names.now c.args.states.now.items c.args.name.now c.in-Some.place Unseen c.index.result.now c.requires there c.index.ensures c.in-Unseen.is)))

pub append_variable-returns-in_ok-append-in-Known-clause-value : goal.append_variable-returns-in_ok-append-in-Known-clause-value
append_variable-returns-in_ok-append-in-Known-clause-value t c =
    let there = sym c.place.ensures ∙ c.in-Some.is in
    let known = state_there c.args.vars.now c.args.names.now c.args.states.now.items c.args.name.now c.in-Some.place (Known c.in-Known.text) c.index.result.now c.requires there c.index.ensures c.in-Known.is in
    known_name c.args.vars.now c.args.names.now c.args.states.now.items c.args.name.now c.in-Some.place c.in-Known.text c.args.out.now c.append.new.self c.requires there known c.in_ok-append-in-Known.ensures

pub expand_text-returns-in_default-clause-value : goal.expand_text-returns-in_default-clause-value
expand_text-returns-in_default-clause-value t c =
    walked_end c.args.vars.now c.args.names.now c.args.text.now c.loop-out.rest.now c.args.states.now.items c.loop-out.states.items c.loop-out.out c.loop-out.invariant.walked c.next_occurrence.new.out
    (rw c.in_default.is at c.in_ok-name.ensures)

pub expand_text-returns-in-Err-clause-fails : goal.expand_text-returns-in-Err-clause-fails
expand_text-returns-in-Err-clause-fails t c =
    walked_stop c.args.vars.now c.args.names.now c.args.text.now c.loop-out.rest.now c.args.states.now.items c.loop-out.states.items c.loop-out.out c.loop-out.invariant.walked c.in-Some.name.now c.in-Some.after.now c.next_occurrence.new.out c.in-Err.stop
    (rw c.in-Some.is at c.in_ok-name.ensures)
    (subst (λ (n : List ℕ). IsStop (λ misfit. (more : List Piece) → Fails c.args.vars.now c.args.names.now c.loop-out.states.items (occurs n ∷ more) misfit) c.in-Err.stop) c.in_ok-variable.ensures c.in-Err.ensures.fails)

pub expand_text-loop-out-preserved : goal.expand_text-loop-out-preserved
expand_text-loop-out-preserved t c = record {
  utf8 = search rules;
  states = keeps_more c.args.vars.now c.args.states.now.items c.loop-out.states.items c.append_variable.new.states.items c.loop-out.invariant.states c.in-Ok.ensures.states;
  walked = walked_more c.args.vars.now c.args.names.now c.args.text.now c.loop-out.rest.now c.args.states.now.items c.loop-out.states.items c.loop-out.out c.loop-out.invariant.walked c.in-Some.name.now c.in-Some.after.now
      c.next_occurrence.new.out c.append_variable.new.out c.append_variable.new.states.items (rw c.in-Some.is at c.in_ok-name.ensures)
      (subst (λ (n : List ℕ). AppendsVariable c.args.vars.now n c.next_occurrence.new.out c.append_variable.new.out) c.in_ok-variable.ensures c.in-Ok.ensures.value) c.in-Ok.ensures.states;
}

pub expand_text-loop-out-preserved-in-Ok : goal.expand_text-loop-out-preserved-in-Ok
expand_text-loop-out-preserved-in-Ok t c = record {
  utf8 = search rules;
  states = keeps_more c.args.vars.now c.args.states.now.items c.loop-out.states.items c.append_variable.new.states.items c.loop-out.invariant.states c.in-Ok.ensures.states;
  walked = walked_more c.args.vars.now c.args.names.now c.args.text.now c.loop-out.rest.now c.args.states.now.items c.loop-out.states.items c.loop-out.out c.loop-out.invariant.walked c.in-Some.name.now c.in-Some.after.now
      c.next_occurrence.new.out c.append_variable.new.out c.append_variable.new.states.items (rw c.in-Some.is at c.in_ok-name.ensures)
      (subst (λ (n : List ℕ). AppendsVariable c.args.vars.now n c.next_occurrence.new.out c.append_variable.new.out) c.in_ok-variable.ensures c.in-Ok.ensures.value) c.in-Ok.ensures.states;
}
