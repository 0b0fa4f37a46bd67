use Rattle.gateway_messages.proofs.laws.end_to_end_fields_alone_cross.Goals as goal

pub returns-clause-end_to_end : goal.returns-clause-end_to_end
returns-clause-end_to_end c gateway request sent name p e s others = p.fields.end_to_end name e s others

pub returns-clause-hop_by_hop : goal.returns-clause-hop_by_hop
returns-clause-hop_by_hop c gateway request sent name p e n = p.fields.hop_by_hop name e n

pub returns-clause-misspelt : goal.returns-clause-misspelt
returns-clause-misspelt c gateway request sent name p s = p.fields.misspelt name s

pub returns-clause-response_end_to_end : goal.returns-clause-response_end_to_end
returns-clause-response_end_to_end c gateway date response sent name p e s others = p.fields.end_to_end name e s others

pub returns-clause-response_misspelt : goal.returns-clause-response_misspelt
returns-clause-response_misspelt c gateway date response sent name p s = p.fields.misspelt name s

pub returns-clause-response_hop_by_hop : goal.returns-clause-response_hop_by_hop
returns-clause-response_hop_by_hop c gateway date response sent name p e n = p.fields.hop_by_hop name e n
