use Rattle.std.proofs.Common.{sym, refl}
use Rattle.std.proofs.lemmas.Result.{err_from_is_err_and}
use Rattle.wc_read.specs.BodyOperators.{operators_left}
use Rattle.wc_read.specs.Reading.Reader.{vector_at}
use Rattle.wc_read.specs.Reading.Bodies.{locals_at}
use Rattle.wc_read.proofs.DecodingLemmas.{body_after_locals, body_with_locals}
use Rattle.wc_read.proofs.LocalRunsLemmas.{refused_locals, front_runs, keeps_read, keeps_text, keeps_no_types, keeps_exact, small_enough, rest_within}
use Rattle.wc_read.proofs.body_operators.Operators.new.Goals as goal

pub returns-in_err-is_shortest-clause-refused : goal.returns-in_err-is_shortest-clause-refused
returns-in_err-is_shortest-clause-refused c =
    let p = err_from_is_err_and c.from_residual.result c.from_residual.ensures.1 in
    rw (p.1, p.2) (λ _. refused_locals c.args.slice.now (rw c.new-reader.ensures at c.in_err-is_shortest.ensures.0) (vector_at locals_at c.args.slice.now) refl)

pub overflow_sub-slice : goal.overflow_sub-slice
overflow_sub-slice c =
    let p = rw c.new-reader.ensures at c.in_ok-is_shortest.ensures in
    rest_within c.args.slice.now c.pass_locals.new.self.rest.now p.0 p.1

pub returns-clause-found : goal.returns-clause-found
unfolding operators_left
returns-clause-found c =
    let p = rw c.new-reader.ensures at c.in_ok-is_shortest.ensures in
    rw c.of_body.ensures (sym (body_after_locals _ _ _ p.1 (small_enough _ p.2)))

pub returns-clause-body : goal.returns-clause-body
unfolding operators_left
returns-clause-body c =
    let p = rw c.new-reader.ensures at c.in_ok-is_shortest.ensures in
    let runs = front_runs c.split_at.result.0.now c.args.slice.now c.pass_locals.new.self.rest.now p.0 c.split_at.ensures.front p.1 in
    rw (c.of_body.ensures, runs) (body_with_locals _ _ _ p.1 (small_enough _ p.2))

pub returns-clause-keeps_locals : goal.returns-clause-keeps_locals
returns-clause-keeps_locals c =
    let p = rw c.new-reader.ensures at c.in_ok-is_shortest.ensures in
    record {
      read = keeps_read c.split_at.result.0.now c.args.slice.now c.pass_locals.new.self.rest.now p.0 c.split_at.ensures.front p.1;
      text = λ is. keeps_text c.split_at.result.0.now c.args.slice.now c.pass_locals.new.self.rest.now p.0 c.split_at.ensures.front p.1 (p.3 is).0;
      no_types = λ is. keeps_no_types c.split_at.result.0.now c.args.slice.now c.pass_locals.new.self.rest.now p.0 c.split_at.ensures.front p.1 (p.3 is).1;
      exact = λ no. keeps_exact c.split_at.result.0.now c.args.slice.now c.pass_locals.new.self.rest.now p.0 c.split_at.ensures.front p.1 (p.4 no);
    }

pub returns-clause-front : goal.returns-clause-front
returns-clause-front c = (c.split_at.result.1.now, c.split_at.ensures.by_index.0)
