-- What a gateway says itself in the message that it sends, as its definitions see it.
use Rattle.std.specs.Prelude.{ℕ, Bool, List, option_map}
use Rattle.{rfc_fields.specs.Scan.Member, gateway_messages.specs.Forwarding.{Message, goes_on}}
use Rattle.gateway_messages.specs.{Trailers.trailer_goes_on, declared.{gateway.Gateway.Gateway, own.Own.Own}}
use Rattle.gateway_messages.specs.declared.received.Section.{Section, TheVariants.{Header, Trailer}}

abbrev pub message_of : Own → Message
message_of own =
    record {
      protocol = own.protocol;
      host = option_map (λ value. value.now.bytes) own.host;
      date = own.date;
      hops = own.hops;
      framing = own.framing;
    }

-- the received field lines of the name are forwarded in that section
abbrev pub goes_on_in : Gateway → Section → List Member → List ℕ → Bool
goes_on_in gateway (Header own) options name = goes_on gateway (message_of own.now) options name
goes_on_in gateway Trailer options name = trailer_goes_on gateway options name
