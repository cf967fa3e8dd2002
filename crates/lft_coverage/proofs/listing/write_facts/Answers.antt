use Rattle.std.proofs.Common.{List, ℕ, ap, flat_map}
use Rattle.std.specs.List.{enumerate_from}
use Rattle.lft_counts.specs.declared.orders.Order.{Order}
use Rattle.lft_coverage.{specs.Facts.{order_line, run_line, width_line, worker_line, write_line}, proofs.Taking.{took_both, took_kept, took_since, took_so}}
use Rattle.lft_coverage.proofs.listing.write_facts.Goals as goal

pub returns : goal.returns
returns g c =
    let program = c.args.program.now in
    let runs = took_so (ap (λ (xs : List ℕ). flat_map (run_line program) (enumerate_from 0 xs)) c.as_slice-runs.ensures) c.put_runs-whole.ensures in
    let writes = took_so (ap (λ (xs : List ℕ). flat_map (write_line program) (enumerate_from 0 xs)) c.as_slice-writes.ensures) c.put_writes-whole.ensures in
    let orders = took_so (ap (λ (xs : List Order). flat_map (order_line program) xs) c.as_slice-orders.ensures) c.put_orders-whole.ensures in
    let widths = took_so (ap (λ (xs : List ℕ). flat_map width_line (enumerate_from 0 xs)) c.widths-widths.ensures) c.put_widths-whole.ensures in
    let workers = took_so (ap (λ (xs : List (ℕ × ℕ)). flat_map worker_line xs) c.requires.workers) c.put_workers-whole.ensures in
    took_kept _ _ _ c.put_workers-whole.result c.put_end.result _ c.put_end.ensures.whole (took_since (took_both c.put-whole.ensures (took_both (took_both (took_both (took_both (took_both runs writes) orders) c.put_pairs-whole.ensures) widths) workers))) c.put_end.ensures.kept
