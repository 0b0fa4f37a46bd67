-- The literal bytes of exchanges, as the stream goes on, and as one more exchange ends.
use Rattle.std.proofs.Common.{◌≡◌, ℕ, List, [], ◌∷◌, ◌++◌, refl, sym, ap, ◌∙◌, subst, append_assoc, append-nil}
use Rattle.http1.{specs.declared.conn.Limits.Limits, proofs.OneParse.request_message_unique}
use Rattle.http_server.specs.declared.state.{Config.Config, State.{State, TheVariants.{Open, Closing, Aborted}}}
use Rattle.http_server.specs.{declared.state.Reason.TheVariants.Refused, Exchange.{Call, Serves}}
use Rattle.http_server.proofs.StreamLemmas.{IsInterim-append, ReadsCall-append, Serves-append}
use Rattle.server_connection.specs.{Literal.{IsLater, SendsCall, SendsCalls}, Machine.{Account, IsLaid}, Pieces.Gives}
use Rattle.server_connection.specs.Plan.{Plans}

-- the calls say where the next request begins
pub rest_same : (config : Config) (calls : List Call) (stream text other rest after : List ℕ)
    → Serves config stream calls text rest → Serves config stream calls other after → rest ≡ after
rest_same config [] stream text other rest after x y = sym x.0 ∙ y.0
rest_same config (c ∷ calls) stream text other rest after x y =
    let same = request_message_unique config.limits stream x.4.message y.4.message x.1 y.1 x.4.request.reads
    y.4.request.reads in
    rest_same config calls x.1 x.2 y.2 rest after x.5
    (subst (λ (t : List ℕ). Serves config t calls y.2 after) (sym same.1) y.5)

IsLater-append : (limits : Limits) (state : State) (rest later more : List ℕ) → IsLater limits state rest later
    → IsLater limits state (rest ++ more) later
IsLater-append limits Open rest later more x = IsInterim-append limits rest later more x
IsLater-append limits Aborted rest later more x = IsInterim-append limits rest later more x
IsLater-append limits (Closing (Refused why)) rest later more x = (x.0, IsInterim-append limits rest x.0 more x.1, x.2)
IsLater-append limits state rest later more x = x

module _ {H : Type 0} (plans : Plans H) (gives : H → Gives) (config : Config) where
  SendsCall-append : {before now : H} {stream text rest : List ℕ} {c : Call}
      → SendsCall plans gives config before now stream c text rest → (more : List ℕ)
      → SendsCall plans gives config before now (stream ++ more) c text (rest ++ more)
  SendsCall-append {stream = stream} x more =
      let e = x.exchange in
      record {
        stays = x.stays;
        exchange = record {
          message = e.message;
          request = ReadsCall-append e.request more;
          interim = e.interim;
          is_interim = IsInterim-append config.limits stream e.interim more e.is_interim;
          answer = e.answer;
          is_answer = e.is_answer;
          joined = e.joined;
          persists = e.persists;
          announced = e.announced;
        };
        plan = x.plan;
        planned = x.planned;
        has_head = x.has_head;
        bodiless = x.bodiless;
        kind = x.kind;
        server = x.server;
        head = x.head;
        tail = x.tail;
        frames = x.frames;
        content = x.content;
        is_content = x.is_content;
        body = x.body;
        literal = x.literal;
      }

  pub SendsCalls-append : (before now : H) (calls : List Call) (stream text rest more : List ℕ)
      → SendsCalls plans gives config before now stream calls text rest
      → SendsCalls plans gives config before now (stream ++ more) calls text (rest ++ more)
  SendsCalls-append before now [] stream text rest more x = (x.0, ap (λ (t : List ℕ). t ++ more) x.1, x.2)
  SendsCalls-append before now (c ∷ calls) stream text rest more x = (
    x.0,
    x.1,
    x.2 ++ more,
    x.3,
    x.4,
    SendsCall-append x.5 more,
    SendsCalls-append x.0 now calls x.2 x.3 rest more x.6,
  )

  pub SendsCalls-push : (before between now : H) (calls : List Call) (c : Call) (stream text rest last after : List ℕ)
      → SendsCalls plans gives config before between stream calls text rest
      → SendsCall plans gives config between now rest c last after
      → SendsCalls plans gives config before now stream (calls ++ c ∷ []) (text ++ last) after
  SendsCalls-push before between now [] c stream text rest last after x y = (
    now,
    last,
    after,
    [],
    ap (λ (t : List ℕ). t ++ last) x.2 ∙ sym (append-nil last),
    subst (λ (h : H). SendsCall plans gives config h now stream c last after) x.0
        (subst (λ (t : List ℕ). SendsCall plans gives config between now t c last after) (sym x.1) y),
    (refl, refl, refl),
  )
  SendsCalls-push before between now (d ∷ calls) c stream text rest last after x y = (
    x.0,
    x.1,
    x.2,
    x.3 ++ last,
    ap (λ (t : List ℕ). t ++ last) x.4 ∙ append_assoc x.1 x.3 last,
    x.5,
    SendsCalls-push x.0 between now calls c x.2 x.3 rest last after x.6 y,
  )

-- more bytes are read
pub laid_more : {H : Type 0} (plans : Plans H) (gives : H → Gives) (first last : H) (a : Account) (more : List ℕ)
    → IsLaid plans gives first last a → IsLaid plans gives first last (record a { received = a.received ++ more })
laid_more plans gives first last a more x =
    let l = x.literal in
    record {
      lost = x.lost;
      literal = record {
        text = l.text;
        rest = l.rest ++ more;
        sends = SendsCalls-append plans gives a.config first last a.calls a.received l.text l.rest more l.sends;
        later = l.later;
        is_later = IsLater-append a.config.limits a.state l.rest l.later more l.is_later;
        out = l.out;
      };
      whole = x.whole;
      serves = λ is_open. Serves-append a.config a.calls a.received l.text l.rest more (x.serves is_open);
      between = x.between;
    }
