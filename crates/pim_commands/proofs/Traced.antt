-- What is printed of an event, as the printers say it and as the words ask for it.
use Rattle.pim_commands.proofs.Words.{◌≡◌, ℕ, true, false, List, map, sym, ap, if◌then◌else◌, AddressFamily}
use Rattle.pim_commands.proofs.Words.{selection_of, line_of}
use Rattle.pim_event_lines.specs.JsonLine.{json_line}
use Rattle.pim_event_lines.specs.TextLine.{text_line}
use Rattle.pim_events.specs.declared.filter.Filter.{Filter}
use Rattle.pim_events.specs.Filter.{filter_seen, if_shown}
use Rattle.pim_words.specs.declared.task.Tracing.{Tracing}

module _ {A : Type 0} (family : AddressFamily) (bytes_of : A → List ℕ) (names : List (List ℕ)) (files : List (List (List ℕ))) (tracing : Tracing A) (filter : Filter A)
    (all : filter.all ≡ tracing.all) (groups : filter.groups.now ≡ tracing.groups.items) (sources : filter.sources.now ≡ tracing.sources.items) (from : filter.from ≡ tracing.from) where
  same_selection : filter_seen bytes_of filter ≡ selection_of bytes_of tracing
  same_selection = λ i. record { all = all i; groups = map bytes_of (groups i); sources = map bytes_of (sources i); from = from i }

  pub as_json : tracing.json ≡ true → (λ event. if_shown (filter_seen bytes_of filter) event (json_line family names files event)) ≡ line_of family bytes_of names files tracing
  as_json json = λ i event. if_shown (same_selection i) event
      (ap (λ b. if b then json_line family names files event else text_line family names files tracing.form event) (sym json) i)

  pub as_text : tracing.json ≡ false → (λ event. if_shown (filter_seen bytes_of filter) event (text_line family names files tracing.form event)) ≡ line_of family bytes_of names files tracing
  as_text json = λ i event. if_shown (same_selection i) event
      (ap (λ b. if b then json_line family names files event else text_line family names files tracing.form event) (sym json) i)
