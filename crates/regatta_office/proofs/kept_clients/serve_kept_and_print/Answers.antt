use Rattle.std.proofs.Common.{arith}
use Rattle.regatta_office.proofs.Seats.{as_many, if_ok}
use Rattle.regatta_office.proofs.kept_clients.serve_kept_and_print.Goals as goal

pub returns-clause-count : goal.returns-clause-count
returns-clause-count g c = if_ok c.serve_kept-back.result.0
    (λ back same. omega (
      arith,
      back.ok,
      c.args.passes.ok,
      as_many (λ p. p.seat) c.args.passes.items back.items same.same,
    ))
    c.serve_kept-back.ensures.served.seats
