-- How the content of a message is delimited (RFC 9112, section 6.3), as a caller is told.
use Rattle.gateway_messages.specs.declared.framing.Framing.{Framing}
use Rattle.gateway_messages.specs.declared.framing.Framing.TheVariants as stated
use Rattle.gateway_messages.specs.declared.response.ContentFraming.{ContentFraming, TheVariants.{Tunnel, Absent}}
use Rattle.gateway_messages.specs.declared.response.ContentFraming.TheVariants.{Length, Chunked, UntilClose}
use Rattle.c_gateway.specs.declared.content.ContentFacts.{ContentFacts}

-- a request of which nothing is stated has no content
abbrev pub request_content : Framing → ContentFraming
request_content stated.Unstated = Absent
request_content (stated.Length length) = Length length
request_content stated.Chunked = Chunked

-- content of which nothing is stated ends with the connection
abbrev pub stated_content : Framing → ContentFraming
stated_content stated.Unstated = UntilClose
stated_content (stated.Length length) = Length length
stated_content stated.Chunked = Chunked

-- how a response's content is delimited with fields that state this, as it is received so
abbrev pub sent_content : ContentFraming → Framing → ContentFraming
sent_content Tunnel framing = Tunnel
sent_content Absent framing = Absent
sent_content (Length length) framing = stated_content framing
sent_content Chunked framing = stated_content framing
sent_content UntilClose framing = stated_content framing

-- the place of each kind in the list of typed_headers.h
abbrev pub content_facts : ContentFraming → ContentFacts
content_facts Absent = record { length = 0; kind = 0 }
content_facts (Length length) = record { length = length; kind = 1 }
content_facts Chunked = record { length = 0; kind = 2 }
content_facts UntilClose = record { length = 0; kind = 3 }
content_facts Tunnel = record { length = 0; kind = 4 }

abbrev pub no_content : ContentFacts
no_content = content_facts Absent
